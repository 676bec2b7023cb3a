use Rattle.std.proofs.Common.{◌≡◌, ◌++◌, true, false, refl, sym, ap, ◌∙◌}
use Rattle.std.proofs.KnownBytes.{Appends-trans}
use Rattle.http_heads.specs.Framing.{asks_head}
use Rattle.reports.specs.Report.{text_of}
use Rattle.counter_api.specs.Sent.{report_head}
use Rattle.counter_api.proofs.Replies.{body_begun, head_begun, keeps_same, rose_by_one, with_body, without_body}
use Rattle.counter_api.proofs.sent.streamed.Goals as goal

pub returns-in-Err-clause-streamed : goal.returns-in-Err-clause-streamed
returns-in-Err-clause-streamed g c =
    let begun = c.in-Err.ensures.beginning in
    let m = c.args.message.now in
    let contents = c.args.report.contents in (
      keeps_same _ _ (ap (λ b. g.S.StoreState.status b.store) (sym c.release.ensures)),
      _,
      begun.2,
      tt,
      λ clean w held counted. head_begun m (text_of w contents) c.length.result begun.0 (c.length.ensures ∙ counted.length),
    )

pub returns-then-asks_head-clause-streamed : goal.returns-then-asks_head-clause-streamed
returns-then-asks_head-clause-streamed g c =
    let m = c.args.message.now in
    let contents = c.args.report.contents in
    let asks : asks_head m.head ≡ true = sym c.asks_head.ensures ∙ c.if-asks_head.true in (
      keeps_same _ _ (ap (λ b. g.S.StoreState.status b.store) (sym c.release-then-asks_head.ensures)),
      _,
      c.in-Ok.ensures.whole,
      tt,
      λ clean w held counted. sym (without_body m (text_of w contents) c.length.result (c.length.ensures ∙ counted.length) asks),
    )

pub returns-in-Ok-write-clause-streamed : goal.returns-in-Ok-write-clause-streamed
returns-in-Ok-write-clause-streamed g c =
    let m = c.args.message.now in
    let contents = c.args.report.contents in
    let asks : asks_head m.head ≡ false = sym c.asks_head.ensures ∙ c.if-asks_head.false in
    let written = c.in-Ok-write.ensures.written in (
      c.in-Ok-write.ensures.kept,
      _,
      Appends-trans _ _ _ _ _ c.in-Ok.ensures.whole written.1,
      tt,
      λ clean w held counted. sym (with_body m (text_of w contents) c.length.result (c.length.ensures ∙ counted.length) asks ∙ ap (λ l. report_head m c.length.result ++ l) (written.2 clean w held counted)),
    )

pub returns-in-Err-Write-clause-streamed : goal.returns-in-Err-Write-clause-streamed
returns-in-Err-Write-clause-streamed g c =
    let m = c.args.message.now in
    let contents = c.args.report.contents in
    let asks : asks_head m.head ≡ false = sym c.asks_head.ensures ∙ c.if-asks_head.false in
    let written = c.in-Err-Write.ensures.written in (
      rw c.in-Err-Write.field-0-is at c.in-Err-Write.ensures.kept,
      _,
      Appends-trans _ _ _ _ _ c.in-Ok.ensures.whole written.1,
      tt,
      λ clean w held counted. body_begun m (text_of w contents) written.0 c.length.result (c.length.ensures ∙ counted.length) asks (written.2 clean w held counted),
    )

pub returns-in-Err-Store-clause-streamed : goal.returns-in-Err-Store-clause-streamed
returns-in-Err-Store-clause-streamed g c =
    let m = c.args.message.now in
    let contents = c.args.report.contents in
    let asks : asks_head m.head ≡ false = sym c.asks_head.ensures ∙ c.if-asks_head.false in
    let written = c.in-Err-Store.ensures.written in (
      rw c.in-Err-Store.field-0-is at c.in-Err-Store.ensures.kept,
      _,
      Appends-trans _ _ _ _ _ c.in-Ok.ensures.whole written.1,
      (c.length.result, (written.0, refl)),
      λ clean w held counted. body_begun m (text_of w contents) written.0 c.length.result (c.length.ensures ∙ counted.length) asks (written.2 clean w held counted),
    )

pub returns-in-Err-Store-clause-cause : goal.returns-in-Err-Store-clause-cause
returns-in-Err-Store-clause-cause g c =
    let counts = rw c.in-Err-Store.field-0-is at c.in-Err-Store.ensures.cause in
    λ clean w held counted. rose_by_one _ _ (counts clean w held counted)
