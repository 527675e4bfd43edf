-- What the components of a program say does not depend on their numbers.
use Rattle.std.proofs.Common.{◌≡◌, ℕ, ◌≤◌, List, map, length, slice_get, Option, Some, None, refl, sym, ◌∙◌, subst, arith}
use Rattle.std.specs.List.{AllByRecursion}
use Rattle.call_components.specs.Partition.{Partition, AreComponents}
use Rattle.cert_structure.specs.Shape.{head_of, body_of}
use Rattle.cert_structure.proofs.ComponentLemmas.{same_recursive, same_first, same_own, same_pair}
use Rattle.cti_terms.specs.declared.atom_list.Atom.{Atom}
use Rattle.cti_terms.specs.Listing.{Listing}
use Rattle.fact_reading.proofs.SectionLemmas.{all_weaker, each_weaker}
use Rattle.lex_certificate.specs.Shape.{lengths_of, lists_of_call}
use Rattle.number_tests.specs.declared.level_part.LevelPart.{LevelPart}
use Rattle.prove_certificate.specs.declared.fact.ProveFact.{ProveFact}
use Rattle.prove_parts.specs.Shape.{pair_of_group, HaveShape, IsGroup, IsStuckSet}
use Rattle.prove_parts.specs.Structure.{IsStructured}
use Rattle.prove_parts.specs.declared.parts.ProveParts.{ProveParts}
use Rattle.prove_parts.specs.declared.stuck.StuckGroup.{StuckGroup}
use Rattle.prove_parts.specs.declared.stuck.StuckSet.{StuckSet}

module _ (p : Listing) (one other : Partition) (h : AreComponents p one) (k : AreComponents p other) where
  same_lengths : (lists : List (List (List LevelPart))) (a : ℕ) → lengths_of one lists a ≡ lengths_of other lists a
  same_lengths lists a = rw (same_recursive p one other h k a, same_first p one other h k a) refl

  same_called : (lists : List (List (List LevelPart))) (a : ℕ) (o : Option Atom) → lists_of_call one lists a o ≡ lists_of_call other lists a o
  same_called lists a o = rw (same_own p one other h k a o) refl

  same_group : (a : ℕ) (pairs : List (ℕ × ℕ)) (g : StuckGroup) → IsGroup p one a pairs g → IsGroup p other a pairs g
  same_group a pairs g is = record { pair = rw (same_pair p one other h k a g.clause g.call) at is.pair; ascend = is.ascend; points = is.points; floor = is.floor }

  stuck_set : (lists : List (List (List LevelPart))) (a : ℕ) (o : Option StuckSet) → IsStuckSet p one lists a o → IsStuckSet p other lists a o
  stuck_set lists a None is = tt
  stuck_set lists a (Some r) is = (
    record { recursive = rw (same_recursive p one other h k a) at is.0.recursive; first = sym (same_first p one other h k a) ∙ is.0.first; none = is.0.none },
    is.1,
    is.2,
    all_weaker (IsGroup p one a (map pair_of_group r.groups)) (IsGroup p other a (map pair_of_group r.groups)) (same_group a (map pair_of_group r.groups)) r.groups is.3,
  )

  shape : (parts : ProveParts) → HaveShape p one parts → HaveShape p other parts
  shape parts is = record {
    modes = is.modes;
    kinds = is.kinds;
    fails = is.fails;
    rows = is.rows;
    row_proofs = is.row_proofs;
    grounds = is.grounds;
    lists = record {
      count = is.lists.count;
      each = each_weaker _ _ (length parts.lists)
          (λ a own below right. record {
            each = right.each ∙ same_lengths parts.lists a;
            some = subst (λ ns. AllByRecursion (λ (n : ℕ). 1 ≤ n) ns) (same_lengths parts.lists a) right.some;
            levels = right.levels;
          })
          0 parts.lists (omega arith) is.lists.each;
    };
    drops = record {
      count = is.drops.count;
      each = each_weaker _ _ (length parts.drops)
          (λ k calls below right. record {
            count = right.count;
            each = each_weaker _ _ (length calls)
                (λ j mss less good. rw (same_called parts.lists (head_of p k) (slice_get (body_of p k) j)) at good)
                0 calls (omega arith) right.each;
          })
          0 parts.drops (omega arith) is.drops.each;
    };
    floors = record {
      count = is.floors.count;
      each = each_weaker _ _ (length parts.floors)
          (λ k calls below right. record {
            count = right.count;
            each = each_weaker _ _ (length calls)
                (λ j ms less good. rw (same_called parts.lists (head_of p k) (slice_get (body_of p k) j)) at good)
                0 calls (omega arith) right.each;
          })
          0 parts.floors (omega arith) is.floors.each;
    };
    preconditions = is.preconditions;
    stuck = record {
      count = is.stuck.count;
      each = each_weaker _ _ (length parts.stuck) (λ a o below right. stuck_set parts.lists a o right) 0 parts.stuck (omega arith) is.stuck.each;
    };
  }

  pub structure : (names : List (List ℕ)) (parts : ProveParts) (facts : List ProveFact) → IsStructured p names one parts facts → IsStructured p names other parts facts
  structure names parts facts is = record { notes = is.notes; are_notes = is.are_notes; shape = shape parts is.shape; is = is.is }
