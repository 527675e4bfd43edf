-- Sets that have moved stay moved while their table grows; and lists that grow by one.
use Rattle.std.proofs.Common.{◌≡◌, ◌++◌, ◌∙◌, ℕ, zero, suc, Bool, List, [], ◌∷◌, length, slice_get, Some, subst, sym}
use Rattle.bool_diagrams.proofs.CallerLemmas.{holds_later, known_later}
use Rattle.bool_diagrams.specs.Cubes.{values_of}
use Rattle.bool_diagrams.specs.Rows.{Keeps}
use Rattle.bool_diagrams.specs.Tree.{Tree as Rows}
use Rattle.bool_diagrams.specs.declared.diagram.Diagram.{Diagram}
use Rattle.moved_diagrams.specs.Moved.{AreMovedOwn, IsMoved}

pub moved_later : (arity : ℕ) (trees : List Rows) (d : Diagram) (new later : List Rows) (e : Diagram) → Keeps new later → IsMoved arity trees d new e → IsMoved arity trees d later e
moved_later arity trees d new later e k m = record {
  known = known_later new later e k m.known;
  reads = λ row other agree. holds_later new later e k m.known row ∙ m.reads row other agree ∙ sym (holds_later new later e k m.known other);
  rows = λ row l. holds_later new later e k m.known (values_of row) ∙ m.rows row l;
}

pub own_later : (arity : ℕ) (trees : List Rows) (sets : List Diagram) (new later : List Rows) (own : List Diagram) → Keeps new later → AreMovedOwn arity trees sets new own → AreMovedOwn arity trees sets later own
own_later arity trees sets new later own k m = record { each = m.each; at = λ i e at d was. moved_later arity trees d new later e k (m.at i e at d was) }

-- what holds of each place holds where one is put last of which it holds
pub at_more : {X : Type 0} (P : ℕ → X → Type 0) (xs : List X) (y : X) → ((i : ℕ) (x : X) → slice_get xs i ≡ Some x → P i x) → P (length xs) y → (i : ℕ) (x : X) → slice_get (xs ++ y ∷ []) i ≡ Some x → P i x
at_more P [] y h one zero x e = (let is : y ≡ x = cc in subst (P 0) is one)
at_more P [] y h one (suc i) x e = cc
at_more P (z ∷ zs) y h one zero x e = h 0 x e
at_more P (z ∷ zs) y h one (suc i) x e = at_more (λ n. P (suc n)) zs y (λ j w at. h (suc j) w at) one i x e
