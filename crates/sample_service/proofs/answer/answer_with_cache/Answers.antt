use Rattle.sample_service.proofs.Opening.{served_through}
use Rattle.sample_service.proofs.answer.answer_with_cache.Goals as goal

pub returns : goal.returns
returns g c =
    let through = served_through g.S.StoreState.status _ _ _ _ _ c.serve_sample_with_cache-served.ensures.served in
    record {
      left = through.0;
      result = c.serve_sample_with_cache-served.result.1;
      served = through.1;
      stated = c.report_end.ensures;
    }
