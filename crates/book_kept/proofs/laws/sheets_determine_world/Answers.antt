use Rattle.book_kept.proofs.SheetsDetermine as proven
use Rattle.book_kept.proofs.laws.sheets_determine_world.Goals as goal

pub returns : goal.returns
returns c = proven.sheets_determine_world
