-- A query that meets a printed mode is bounded, and a run without more nodes is Done or ends at a value that is too
-- large.
use Rattle.std.proofs.Common.{◌≡◌, ◌⊎◌, ℕ, List, inl, inr, refl}
use Rattle.certificate.specs.declared.fact.Fact.{Fact}
use Rattle.certificate.specs.declared.fact.Fact.TheVariants.{Terminates}
use Rattle.cert_checker.specs.Bounding.{FactIsBounded, ModeIsBounded, ModesAreBounded, rigid_in}
use Rattle.cti_terms.specs.Derive.{query, Bounded}
use Rattle.cti_terms.specs.Listing.{Listing}
use Rattle.cti_terms.specs.declared.atom_list.Atom.{Atom}
use Rattle.cti_terms.specs.Nodes.{HasMoreNodes}
use Rattle.cti_terms.specs.declared.derivation.Goal.{Goal}
use Rattle.ld_resolver.specs.declared.running.Ending.{Ending}
use Rattle.cti_top.specs.Meets.{MeetsMode}
use Rattle.cti_top.specs.Runs.{Ends, wide, more, no_more, IsFinished}
use Rattle.cti_top.specs.declared.status.Status.{Status}
use Rattle.cti_top.specs.declared.status.Status.TheVariants.{Done, Overflow}
use Rattle.cti_top.proofs.ModeLemmas.{known_at}

pub is_bounded : (p : Listing) (names : List (List ℕ)) (facts : List Fact) (a : Atom) (counter : ℕ) → ModesAreBounded p names facts → MeetsMode p names facts a → Bounded p (query a counter)
is_bounded p names facts a counter all m =
    let rigid = rigid_in names facts in
    let fact = known_at (FactIsBounded p names rigid) facts m.line (Terminates m.text m.modes) all m.fact in
    let mode = known_at (ModeIsBounded p names rigid m.text) m.modes m.number m.mode fact m.printed in
    mode a counter m.same m.rigid

-- where there are no more nodes, a run is not stopped
pub finishes : (p : Listing) (g : Goal) (n : ℕ) → (HasMoreNodes p g n → ⊥) → IsFinished p g n
finishes p g n none = record { enough = none; done = λ names status text ran. ended status ran.ending ran.ends }
  where
    ended : (status : Status) (e : Ending) → Ends p g n status e → (status ≡ Done) ⊎ (status ≡ Overflow)
    ended status e h = elim h as (λ s e _. (s ≡ Done) ⊎ (s ≡ Overflow)) [
      | wide w ↦ inr refl
      | more w m ↦ absurd (none m)
      | no_more w m ↦ inl refl
    ]
