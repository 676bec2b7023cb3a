use Rattle.std.proofs.Common.{◌≡◌, ℕ, ℤ, ◌-◌, List, [], ◌++◌, refl, length, replicate, ap, ◌∙◌, sym, subst, append-nil}
use Rattle.std.proofs.KnownBytes.{Appends-nil}
use Rattle.std.proofs.lemmas.Result.{err_from_is_err_and}
use Rattle.money.specs.Counted.{Sends}
use Rattle.money.specs.Text.{cents_text, right}
use Rattle.money.proofs.Beginnings.{Sends-after, on_ok}
use Rattle.money.proofs.text.write_cents.Goals as goal

-- the spaces, and then the text
right_of_text : (width left len : ℕ) (text : List ℕ) (cents : ℤ) → text ≡ cents_text cents → len ≡ length text → left ≡ width - len
    → right width (cents_text cents) ≡ replicate left 32 ++ text
right_of_text width left len text cents same is count = cc

pub returns-in_err-write_spaces : goal.returns-in_err-write_spaces
returns-in_err-write_spaces g c =
    let whole = right_of_text c.args.width c.saturating_sub.result c.len.result c.text_of-text.result.items c.args.cents c.text_of-text.ensures c.len.ensures.value c.saturating_sub.ensures in
    subst (Sends _ _ _ _) (sym (err_from_is_err_and _ c.from_residual.ensures.1).1)
    (Sends-after g.W.Write.contents c.args.writer.now c.args.writer.now _ [] _ _ _ _ whole tt (Appends-nil _) refl c.in_err-write_spaces.ensures)

pub returns : goal.returns
returns g c =
    let whole = right_of_text c.args.width c.saturating_sub.result c.len.result c.text_of-text.result.items c.args.cents c.text_of-text.ensures c.len.ensures.value c.saturating_sub.ensures in
    let sent : c.as_slice.result.now ++ [] ≡ c.text_of-text.result.items = append-nil _ ∙ c.as_slice.ensures.value in
    Sends-after g.W.Write.contents c.args.writer.now c.write_spaces.new.writer _ _ c.as_slice.result.now [] _ c.write_whole.result
    (whole ∙ ap (λ t. replicate c.saturating_sub.result 32 ++ t) (sym sent)) (on_ok c.write_whole.result refl) c.in_ok-write_spaces.ensures.whole c.in_ok-write_spaces.ensures.kept
    c.write_whole.ensures
