-- What the components of a program say does not depend on their numbers.
use Rattle.std.proofs.Common.{◌≡◌, ℕ, ◌≤◌, List, length, slice_get, Option, Some, None, refl, sym, ◌∙◌, subst, arith}
use Rattle.std.specs.List.{AllByRecursion}
use Rattle.call_components.specs.Partition.{Partition, AreComponents}
use Rattle.cert_structure.specs.Shape.{head_of, body_of}
use Rattle.cti_terms.specs.declared.atom_list.Atom.{Atom}
use Rattle.cti_terms.specs.Listing.{Listing}
use Rattle.cert_structure.proofs.ComponentLemmas.{same_recursive, same_first, same_own, same_pair}
use Rattle.fact_reading.proofs.SectionLemmas.{all_weaker, each_weaker}
use Rattle.number_tests.specs.declared.level_part.LevelPart.{LevelPart}
use Rattle.number_tests.specs.declared.pair_point.PairPoint.{PairPoint}
use Rattle.number_tests.specs.declared.refutation.Refutation.{Refutation}
use Rattle.lex_certificate.specs.declared.fact.LexFact.{LexFact}
use Rattle.lex_certificate.specs.declared.parts.LexParts.{LexParts}
use Rattle.lex_certificate.specs.Shape.{lengths_of, lists_of_call, IsStuckPoint, IsStuckSet, HaveShape}
use Rattle.lex_certificate.specs.Structure.{IsStructured}

module _ (p : Listing) (one other : Partition) (h : AreComponents p one) (k : AreComponents p other) where
  same_lengths : (lists : List (List (List LevelPart))) (a : ℕ) → lengths_of one lists a ≡ lengths_of other lists a
  same_lengths lists a = rw (same_recursive p one other h k a, same_first p one other h k a) refl

  same_called : (lists : List (List (List LevelPart))) (a : ℕ) (o : Option Atom) → lists_of_call one lists a o ≡ lists_of_call other lists a o
  same_called lists a o = rw (same_own p one other h k a o) refl

  stuck_point : (a : ℕ) (x : PairPoint) → IsStuckPoint p one a x → IsStuckPoint p other a x
  stuck_point a x is = record { pair = rw (same_pair p one other h k a x.clause x.call) at is.pair; point = is.point; positive = is.positive; single = is.single }

  stuck_set : (lists : List (List (List LevelPart))) (a : ℕ) (o : Option Refutation) → IsStuckSet p one lists a o → IsStuckSet p other lists a o
  stuck_set lists a None is = tt
  stuck_set lists a (Some r) is = (
    record { recursive = rw (same_recursive p one other h k a) at is.0.recursive; first = sym (same_first p one other h k a) ∙ is.0.first; none = is.0.none },
    is.1,
    is.2,
    all_weaker (IsStuckPoint p one a) (IsStuckPoint p other a) (stuck_point a) r.points is.3,
  )

  shape : (parts : LexParts) → HaveShape p one parts → HaveShape p other parts
  shape parts is = record {
    modes = is.modes;
    rows = is.rows;
    row_proofs = is.row_proofs;
    grounds = is.grounds;
    lists = record {
      count = is.lists.count;
      each = each_weaker _ _ (length parts.lists)
          (λ a own below right. record {
            each = right.each ∙ same_lengths parts.lists a;
            some = subst (λ ns. AllByRecursion (λ (n : ℕ). 1 ≤ n) ns) (same_lengths parts.lists a) right.some;
            levels = right.levels;
          })
          0 parts.lists (omega arith) is.lists.each;
    };
    drops = record {
      count = is.drops.count;
      each = each_weaker _ _ (length parts.drops)
          (λ k calls below right. record {
            count = right.count;
            each = each_weaker _ _ (length calls)
                (λ j mss less good. rw (same_called parts.lists (head_of p k) (slice_get (body_of p k) j)) at good)
                0 calls (omega arith) right.each;
          })
          0 parts.drops (omega arith) is.drops.each;
    };
    preconditions = is.preconditions;
    stuck = record {
      count = is.stuck.count;
      each = each_weaker _ _ (length parts.stuck) (λ a o below right. stuck_set parts.lists a o right) 0 parts.stuck (omega arith) is.stuck.each;
    };
  }

  pub structure : (names : List (List ℕ)) (parts : LexParts) (facts : List LexFact) → IsStructured p names one parts facts → IsStructured p names other parts facts
  structure names parts facts is = record { notes = is.notes; are_notes = is.are_notes; shape = shape parts is.shape; is = is.is }
