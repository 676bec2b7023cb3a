-- Each by the clause of the call, over the store of that name.
use Rattle.sample_service.proofs.store_name.answer_in.Goals as goal

pub returns-in-List : goal.returns-in-List
returns-in-List g c = rw c.in-List.is (c.answer_sample.ensures)

pub returns-in-Cached : goal.returns-in-Cached
returns-in-Cached g c = rw c.in-Cached.is (c.answer_with_cache.ensures)

pub returns-in-Tables : goal.returns-in-Tables
returns-in-Tables g c = rw c.in-Tables.is (c.answer_sample-in-Tables.ensures)
