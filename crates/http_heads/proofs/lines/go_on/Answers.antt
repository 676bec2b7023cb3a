use Rattle.std.proofs.Common.{◌≡◌, List, ℕ, ◌-◌, ◌≤◌, ◌++◌, length, take, drop, refl, subst, sym, true, false, arith}
use Rattle.std.proofs.lemmas.List.{take-append-drop, take_all, length-drop}
use Rattle.http_heads.proofs.BlankLemmas.{IsBlank}
use Rattle.http_heads.specs.Stream.{max_head_len}
use Rattle.http_heads.specs.Seen.{LacksLastLine}
use Rattle.http_heads.proofs.SeenLemmas.{more_fields, more_ends, ends_following, no_section, has_room}
use Rattle.http_heads.proofs.lines.go_on.Goals as goal

-- all of the lines are those that were seen, and what follows them
from_parts : (P : List ℕ → Type 0) (n : ℕ) (lines : List ℕ) → P (take n lines ++ drop n lines) → P lines
from_parts P n lines p = subst P (take-append-drop n lines) p

in_parts : (P : List ℕ → Type 0) (n : ℕ) (lines : List ℕ) → P lines → P (take n lines ++ drop n lines)
in_parts P n lines p = subst P (sym (take-append-drop n lines)) p

pub returns-in-Ok-Partial-clause-exact : goal.returns-in-Ok-Partial-clause-exact
returns-in-Ok-Partial-clause-exact c =
    let n = c.args.seen.lines in
    let lines = c.args.lines.now in
    let e = rw c.in-Ok-Partial.field-0-is at c.in-Ok-Partial.ensures in
    let front : LacksLastLine (take n lines) = rw c.if-seen.true at c.requires.known in
    let all : LacksLastLine lines = from_parts LacksLastLine n lines (more_fields (take n lines) (drop n lines) front c.requires.whole e.partial e.unfinished) in
    (λ _. rw c.if-seen.true all, λ _. refl)

pub returns-in-Ok-Complete-clause-exact : goal.returns-in-Ok-Complete-clause-exact
returns-in-Ok-Complete-clause-exact c =
    let n = c.args.seen.lines in
    let lines = c.args.lines.now in
    let e = rw c.in-Ok-Complete.field-0-is at c.in-Ok-Complete.ensures in
    let front : LacksLastLine (take n lines) = rw c.if-seen.true at c.requires.known in
    let section = e.complete in (
      (λ no. let wrong : false ≡ true = no in absurd cc),
      λ all.
          let lacking : LacksLastLine lines = rw c.if-seen.true at all in
          absurd (no_section (take n lines) (drop n lines) section.0 section.1 _ front (in_parts LacksLastLine n lines lacking) section.2.reads),
    )

pub returns-in-Err-clause-exact : goal.returns-in-Err-clause-exact
returns-in-Err-clause-exact c =
    let n = c.args.seen.lines in
    let lines = c.args.lines.now in
    let front : LacksLastLine (take n lines) = rw c.if-seen.true at c.requires.known in
    let short : length (drop n lines) ≤ max_head_len = omega (arith, length-drop n lines, c.requires.short) in (
      (λ no. let wrong : false ≡ true = no in absurd cc),
      λ all.
          let lacking : LacksLastLine lines = rw c.if-seen.true at all in
          absurd (has_room (take n lines) (drop n lines) _ front (in_parts LacksLastLine n lines lacking) short c.requires.room c.in-Err.ensures.no_room),
    )

pub returns-else-seen-clause-exact : goal.returns-else-seen-clause-exact
returns-else-seen-clause-exact c =
    let n = c.args.seen.lines in
    let lines = c.args.lines.now in
    let front : IsBlank (take n lines) = rw c.if-seen.false at c.requires.known in
    let same : take (length lines - n) (drop n lines) ≡ drop n lines = take_all (length lines - n) (drop n lines) (omega (arith, length-drop n lines)) in (
      λ are.
          let new : IsBlank (drop n lines) = subst IsBlank same (c.are_line_ends.ensures.0 are) in
          rw c.if-seen.false (from_parts IsBlank n lines (more_ends (take n lines) (drop n lines) front new)),
      λ all.
          let ends : IsBlank lines = rw c.if-seen.false at all in
          c.are_line_ends.ensures.1 (subst IsBlank (sym same) (ends_following (take n lines) (drop n lines) front (in_parts IsBlank n lines ends))),
    )
