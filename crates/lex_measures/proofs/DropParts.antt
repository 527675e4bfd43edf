-- Lists of drops, one after the other.
use Rattle.std.proofs.Common.{◌≡◌, ℕ, suc, ◌+◌, ◌==◌, ◌&&◌, true, false, if◌then◌else◌, List, [], ◌∷◌, ◌++◌, drop, slice_get, Some, ap, ◌∙◌, arith}
use Rattle.call_components.specs.Partition.{Partition}
use Rattle.cti_terms.specs.Listing.{Listing}
use Rattle.cti_terms.specs.declared.atom_list.Atom.{Atom}
use Rattle.level_systems.proofs.PairLists.{drop_at}
use Rattle.lex_turns.specs.declared.call_drops.CallDrops.{CallDrops}
use Rattle.lex_turns.specs.declared.found_lists.FoundLists.{FoundLists}
use Rattle.lex_measures.specs.Exact.{place_in}
use Rattle.lex_measures.specs.Lists.{drops_at, drops_from}

pub place_here : (ds : List CallDrops) (i k j : ℕ) (d : CallDrops) → slice_get ds i ≡ Some d → ((d.clause == k) && (d.call == j)) ≡ true → place_in (drop i ds) k j ≡ Some d.by
place_here ds i k j d at e = ap (λ xs. place_in xs k j) (drop_at ds i d at) ∙ (λ x. if e x then Some d.by else place_in (drop (i + 1) ds) k j)

pub place_later : (ds : List CallDrops) (i k j : ℕ) (d : CallDrops) → slice_get ds i ≡ Some d → ((d.clause == k) && (d.call == j)) ≡ false → place_in (drop i ds) k j ≡ place_in (drop (i + 1) ds) k j
place_later ds i k j d at e = ap (λ xs. place_in xs k j) (drop_at ds i d at) ∙ (λ x. if e x then Some d.by else place_in (drop (i + 1) ds) k j)

pub drops_step : (p : Listing) (comps : Partition) (found : List FoundLists) (k i : ℕ) (bs : List Atom) (b : Atom) → slice_get bs i ≡ Some b
    → drops_from p comps found k i (drop i bs) ≡ (drops_at p comps found k i (Some b) ∷ []) ++ drops_from p comps found k (i + 1) (drop (i + 1) bs)
drops_step p comps found k i bs b at =
    let next : suc i ≡ i + 1 = omega arith in
    ap (drops_from p comps found k i) (drop_at bs i b at) ∙ ap (λ n. drops_at p comps found k i (Some b) ∷ drops_from p comps found k n (drop (i + 1) bs)) next
