use Rattle.std.proofs.Common.{◌≡◌, ◌≤◌, length, take, true, false, refl, sym, ◌∙◌, subst, arith}
use Rattle.std.proofs.lemmas.List.{length-take}
use Rattle.http_heads.proofs.JudgeLemmas.{take_take, no_head, well_formed, malformed, same_request, same_within}
use Rattle.http_heads.proofs.SeenLemmas.{first_wait, whole_through, started_now, part_of}
use Rattle.http_heads.specs.Seen.{AreFirstLines}
use Rattle.http_heads.proofs.judging.judge_from.Goals.{else-is_short-via-then-is_short+else-go_on, else-is_short-via-else-is_short}
use Rattle.http_heads.proofs.judging.judge_from.Goals as goal

pub returns-then-go_on-clause-judged : goal.returns-then-go_on-clause-judged
returns-then-go_on-clause-judged c =
    let waits = first_wait c.args.seen.now.started (take c.lines_end-len.result c.args.bytes.now) (c.if-go_on.ensures.exact.0 refl) in
    record {
      short = omega arith;
      no_head = no_head _ c.min.result c.lines_end-len.result c.min.ensures c.lines_end-len.ensures.after waits.0;
      well_formed = well_formed _ c.min.result c.lines_end-len.result c.min.ensures c.lines_end-len.ensures.after waits.1;
    }

pub judge_lines-requires-clause-whole : goal.judge_lines-requires-clause-whole
judge_lines-requires-clause-whole c =
    whole_through _ c.args.seen.now c.min.result c.lines_end-len.result c.requires.known c.lines_end-len.ensures.within.0
    (omega (arith, c.lines_end-len.ensures.within, length-take c.min.result c.args.bytes.now)) (omega (arith, c.lines_end-len.ensures.within, length-take c.min.result c.args.bytes.now)) c.lines_end-len.ensures.line

pub returns-in-Head-clause-judged : goal.returns-in-Head-clause-judged
returns-in-Head-clause-judged c =
    let within = c.in-Head.ensures.1 in (
      same_request _ _ _ _ within c.in-Head.ensures.0,
      same_within _ _ _ _ within,
      omega (arith, within.section.len_fits, length-take c.lines_end-len.result c.args.bytes.now, length-take c.min.result c.args.bytes.now, c.lines_end-len.ensures.within),
    )

pub returns-in-Malformed-clause-judged : goal.returns-in-Malformed-clause-judged
returns-in-Malformed-clause-judged c =
    malformed _ _ (omega (arith, length-take c.min.result c.args.bytes.now, c.lines_end-len.ensures.within)) c.in-Malformed.ensures.0 c.in-Malformed.ensures.1

pub returns-then-is_short-2-clause-judged : goal.returns-then-is_short-2-clause-judged
returns-then-is_short-2-clause-judged c = record {
  short = omega arith;
  no_head = no_head _ c.min.result c.lines_end-len.result c.min.ensures c.lines_end-len.ensures.after c.in-Waiting.ensures.0;
  well_formed = well_formed _ c.min.result c.lines_end-len.result c.min.ensures c.lines_end-len.ensures.after c.in-Waiting.ensures.1;
}

pub returns-then-is_short-2-clause-kept : goal.returns-then-is_short-2-clause-kept
returns-then-is_short-2-clause-kept c =
    let bytes = c.args.bytes.now in
    let seen = c.args.seen.now in
    let n = c.lines_end-len.result in
    let within : n ≤ c.min.result = omega (arith, c.lines_end-len.ensures.within, length-take c.min.result bytes) in
    let fits : n ≤ length bytes = omega (arith, c.lines_end-len.ensures.within, length-take c.min.result bytes) in
    let whole = whole_through bytes seen c.min.result n c.requires.known c.lines_end-len.ensures.within.0 within fits c.lines_end-len.ensures.line in
    let front : AreFirstLines seen.started (take seen.lines (take n bytes)) =
    subst (AreFirstLines seen.started) (sym (take_take seen.lines n bytes c.lines_end-len.ensures.within.0)) c.requires.known.lines in
    let no_more : ¬ (AreFirstLines seen.started (take n bytes)) = λ more. elim c.else-is_short.branch [
      | else-is_short-via-then-is_short+else-go_on w ↦ let no : true ≡ false = sym (w.go_on.ensures.exact.1 more) ∙ w.if-go_on.false in cc
      | else-is_short-via-else-is_short w ↦ absurd (omega (arith, w.if-is_short.false))
    ] in
    record {
      order = fits;
      within = omega arith;
      short = omega arith;
      lines = started_now seen.started seen.lines (take n bytes) front no_more whole c.in-Waiting.ensures;
      part = part_of bytes c.min.result n c.min.ensures (omega arith) c.lines_end-len.ensures.after;
    }

pub returns-else-is_short-2-clause-judged : goal.returns-else-is_short-2-clause-judged
returns-else-is_short-2-clause-judged c = record {
  full = omega arith;
  no_head = no_head _ c.min.result c.lines_end-len.result c.min.ensures c.lines_end-len.ensures.after c.in-Waiting.ensures.0;
  well_formed = well_formed _ c.min.result c.lines_end-len.result c.min.ensures c.lines_end-len.ensures.after c.in-Waiting.ensures.1;
}
