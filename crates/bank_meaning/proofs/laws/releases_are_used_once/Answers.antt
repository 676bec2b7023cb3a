use Rattle.bank_meaning.proofs.UsedRelease.{releases_are_used_once}
use Rattle.bank_meaning.proofs.laws.releases_are_used_once.Goals as goal

pub returns : goal.returns
returns c = releases_are_used_once
