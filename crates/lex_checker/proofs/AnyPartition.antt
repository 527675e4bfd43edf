-- What parts claim holds for each partition of a program into components where it holds for one.
use Rattle.std.proofs.Common.{ℕ, ℤ, Bool, List}
use Rattle.call_components.specs.Partition.{AreComponents, Partition}
use Rattle.cert_checker.proofs.AnyPartition as flat_parts
use Rattle.cert_checker.proofs.Partitions.{moved, recursion_moves, together_moves}
use Rattle.cti_terms.specs.Listing.{Listing}
use Rattle.cti_terms.specs.Tree.{Tree}
use Rattle.lex_certificate.specs.Flat.{flat}
use Rattle.lex_certificate.specs.declared.parts.LexParts.{LexParts}
use Rattle.lex_checker.specs.Proved.{DropsHold, ListsAreZero}
use Rattle.lex_checker.specs.Valid.{PartsHold}

module _ (truth : (ℕ → Bool) → Tree → Bool) (expression : ℕ → Tree → List ℤ) (p : Listing) (one other : Partition) (a : AreComponents p one) (b : AreComponents p other) (parts : LexParts) where
  zero_moves : ListsAreZero one parts → ListsAreZero other parts
  zero_moves h d q eq none =
      let (c, hq) = moved p other one b a d q eq in
      h c q hq (recursion_moves p one other a b c d q hq eq none)

  drops_move : DropsHold expression p one parts → DropsHold expression p other parts
  drops_move h k c at j call ej together = h k c at j call ej (together_moves p other one b a c.head.pred.0 call.pred.0 together)

  pub parts_hold : PartsHold truth expression p one parts → PartsHold truth expression p other parts
  parts_hold h = record {
    modes = flat_parts.modes truth expression p one other a b (flat parts) h.modes;
    stated = h.stated;
    rows = h.rows;
    zero = zero_moves h.zero;
    drops = drops_move h.drops;
    stuck = flat_parts.refutations truth expression p one other a b (flat parts) h.stuck;
  }
