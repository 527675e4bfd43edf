-- Lists of falls, one after the other.
use Rattle.std.proofs.Common.{◌≡◌, ℕ, suc, ◌+◌, ◌==◌, ◌&&◌, true, false, if◌then◌else◌, List, [], ◌∷◌, ◌++◌, drop, slice_get, Some, ap, ◌∙◌, arith}
use Rattle.call_components.specs.Partition.{Partition}
use Rattle.cti_terms.specs.Listing.{Listing}
use Rattle.cti_terms.specs.declared.atom_list.Atom.{Atom}
use Rattle.level_systems.specs.declared.fall.Fall.{Fall}
use Rattle.level_systems.specs.declared.found.Found.{Found}
use Rattle.level_systems.proofs.PairLists.{drop_at}
use Rattle.report.specs.Levels.{fall_in, falls_at, falls_from}

pub fall_here : (fs : List Fall) (i k j : ℕ) (f : Fall) → slice_get fs i ≡ Some f → ((f.clause == k) && (f.call == j)) ≡ true → fall_in (drop i fs) k j ≡ Some f.by
fall_here fs i k j f at e = ap (λ xs. fall_in xs k j) (drop_at fs i f at) ∙ (λ x. if e x then Some f.by else fall_in (drop (i + 1) fs) k j)

pub fall_later : (fs : List Fall) (i k j : ℕ) (f : Fall) → slice_get fs i ≡ Some f → ((f.clause == k) && (f.call == j)) ≡ false → fall_in (drop i fs) k j ≡ fall_in (drop (i + 1) fs) k j
fall_later fs i k j f at e = ap (λ xs. fall_in xs k j) (drop_at fs i f at) ∙ (λ x. if e x then Some f.by else fall_in (drop (i + 1) fs) k j)

pub falls_step : (p : Listing) (comps : Partition) (found : List Found) (k i : ℕ) (bs : List Atom) (b : Atom) → slice_get bs i ≡ Some b
    → falls_from p comps found k i (drop i bs) ≡ (falls_at p comps found k i (Some b) ∷ []) ++ falls_from p comps found k (i + 1) (drop (i + 1) bs)
falls_step p comps found k i bs b at =
    let next : suc i ≡ i + 1 = omega arith in
    ap (falls_from p comps found k i) (drop_at bs i b at) ∙ ap (λ n. falls_at p comps found k i (Some b) ∷ falls_from p comps found k n (drop (i + 1) bs)) next
