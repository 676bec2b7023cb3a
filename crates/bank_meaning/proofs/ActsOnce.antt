-- What bears a slip acts once, along a list of requests.
use Rattle.std.proofs.Common.{◌≡◌, Bool, true, false, List, [], ◌∷◌, map, refl, ap, sym, ◌∙◌}
use Rattle.std.specs.Prelude.{if◌then◌else◌}
use Rattle.bank_books.specs.WorldLists.{WorldLists}
use Rattle.bank_meaning.specs.Once.{ActsOnce, EachActsOnce, is_taken_out, marked_without_slip, once, once_replies, replies, without_slip, without_slips}
use Rattle.bank_meaning.specs.Run.{Marked, accepted, after_request, is_accepted, reply, world_after}
use Rattle.bank_meaning.specs.declared.request.Request.{Request}
use Rattle.bank_meaning.proofs.SlipSteps.{out_after, out_refused, same_acceptance, same_after, same_reply, stays}

-- the requests of a list without slips
abbrev bare : List Marked → List Marked
bare ms = map marked_without_slip ms

-- where the first is taken out
first_out : (w : WorldLists) (m : Marked) (ms : List Marked) → is_taken_out w m.request ≡ true → ActsOnce (after_request w m) ms → ActsOnce w (m ∷ ms)
first_out w m ms out rest =
    let after = after_request w m in
    let stay : after ≡ w = out_after w m out in
    let list = once after ms in
    let left : once w (m ∷ ms) ≡ list = ap (λ (b : Bool). if b then list else m ∷ list) out in
    record {
      world = rest.world ∙ ap (λ v. world_after (without_slips v) (bare list)) stay ∙ ap (λ ns. world_after (without_slips w) (bare ns)) (sym left);
      replies =
          ap (λ (b : Bool). if b then once_replies after ms else reply w m.request ∷ once_replies after ms) out
          ∙ rest.replies ∙ ap (λ v. replies (without_slips v) (bare list)) stay ∙ ap (λ ns. replies (without_slips w) (bare ns)) (sym left);
      accepted =
          ap (λ (b : Bool). map without_slip (if b then m.request ∷ accepted after ms else accepted after ms)) (out_refused w m out)
          ∙ rest.accepted ∙ ap (λ v. accepted (without_slips v) (bare list)) stay ∙ ap (λ ns. accepted (without_slips w) (bare ns)) (sym left);
    }

map_if : (b : Bool) (q : Request) (qs : List Request) → map without_slip (if b then q ∷ qs else qs) ≡ (if b then without_slip q ∷ map without_slip qs else map without_slip qs)
map_if true q qs = refl
map_if false q qs = refl

-- where it stays
first_stays : (w : WorldLists) (m : Marked) (ms : List Marked) → is_taken_out w m.request ≡ false → ActsOnce (after_request w m) ms → ActsOnce w (m ∷ ms)
first_stays w m ms is rest =
    let after = after_request w m in
    let v = without_slips w in
    let n = marked_without_slip m in
    let same = stays w m.request is in
    let next : without_slips after ≡ after_request v n = same_after w m is in
    let list = once after ms in
    let left : once w (m ∷ ms) ≡ m ∷ list = ap (λ (b : Bool). if b then list else m ∷ list) is in
    record {
      world = rest.world ∙ ap (λ u. world_after u (bare list)) next ∙ ap (λ ns. world_after v (bare ns)) (sym left);
      replies =
          ap (λ (b : Bool). if b then once_replies after ms else reply w m.request ∷ once_replies after ms) is
          ∙ ap (λ r. r ∷ once_replies after ms) (same_reply w m.request same)
          ∙ ap (λ rs. reply v n.request ∷ rs) (rest.replies ∙ ap (λ u. replies u (bare list)) next)
          ∙ ap (λ ns. replies v (bare ns)) (sym left);
      accepted =
          map_if (is_accepted w m) m.request (accepted after ms)
          ∙ ap (λ qs. if is_accepted w m then n.request ∷ qs else qs) (rest.accepted ∙ ap (λ u. accepted u (bare list)) next)
          ∙ ap (λ (b : Bool). if b then n.request ∷ accepted (after_request v n) (bare list) else accepted (after_request v n) (bare list)) (same_acceptance w m same)
          ∙ ap (λ ns. accepted v (bare ns)) (sym left);
    }

first_of : (w : WorldLists) (m : Marked) (ms : List Marked) (b : Bool) → is_taken_out w m.request ≡ b → ActsOnce (after_request w m) ms → ActsOnce w (m ∷ ms)
first_of w m ms true is rest = first_out w m ms is rest
first_of w m ms false is rest = first_stays w m ms is rest

pub each_acts_once : EachActsOnce
each_acts_once w [] = record { world = refl; replies = refl; accepted = refl }
each_acts_once w (m ∷ ms) = first_of w m ms (is_taken_out w m.request) refl (each_acts_once (after_request w m) ms)
