-- The lists and multipliers at a call, and what the tests of its drops decide.
use Rattle.std.proofs.Common.{◌≡◌, ◌↔◌, ℕ, ◌≤◌, ◌-ℤ◌, inl, inr, ℤ, pos, neg_ℤ, Bool, List, [], ◌∷◌, map, take, length, slice_get, IsSomeAnd, Option, Some, None, refl, sym, ap, subst, ◌∙◌, arith}
use Rattle.std.specs.List.{AllByRecursion}
use Rattle.std.proofs.lemmas.Bool.{cases_lt}
use Rattle.std.proofs.lemmas.List.{length-append}
use Rattle.call_components.specs.Partition.{Partition}
use Rattle.cert_checker.proofs.ShapeLaws.{list_past}
use Rattle.cert_checker.specs.Shape.{AreTogether}
use Rattle.cti_terms.specs.Listing.{IsAtom, IsClause, Listing}
use Rattle.cti_terms.specs.Tree.{Tree}
use Rattle.cti_terms.specs.declared.atom_list.Atom.{Atom}
use Rattle.cti_terms.specs.declared.clauses.Clause.{Clause}
use Rattle.cti_terms.specs.declared.predicates.Pred.{Pred}
use Rattle.number_tests.proofs.DropLaws.{drop_target}
use Rattle.number_tests.specs.Drops.{drop_of, drop_weights}
use Rattle.lex_certificate.specs.declared.parts.LexParts.{LexParts}
use Rattle.linear_rows.specs.Showing.{AreMultipliers, IsShown}
use Rattle.linear_rows.specs.declared.multipliers.Multipliers.{Multipliers}
use Rattle.number_tests.proofs.CallFacts.{can_weigh}
use Rattle.number_tests.specs.Shape.{IsLevelPart, list_at, row_count}
use Rattle.number_tests.specs.Targets.{AreFallColumns, fall_weights}
use Rattle.number_tests.specs.declared.level_part.LevelPart.{LevelPart}
use Rattle.term_size.specs.Norm.{IsNorm}
use Rattle.termination_model.proofs.Lists.{by_places}
use Rattle.termination_model.specs.sizes.Replacing.{over_columns}
use Rattle.termination_model.specs.sizes.Sizes.{rows_of}
use Rattle.lex_checker.specs.Proved.{MeasuresDrop, drop_at}
use Rattle.lex_checker.specs.Shape.{AreListsAt, AreShown, CanDrop, HaveDrops, HaveLists}
use Rattle.lex_checker.proofs.Descending.{all_at}
use Rattle.lex_checker.proofs.Shapes.{length_at}

some_and : {X : Type 0} → (P : X → Type 0) (o : Option X) → IsSomeAnd o P → (x : X) × (o ≡ Some x) × P x
some_and P None h = absurd h
some_and P (Some x) h = (x, refl, h)

-- the numbers that count are as many, whatever drop is asked
pub weights_long : (d : ℕ) (head call : LevelPart) → length (drop_weights d head call) ≡ length (fall_weights head call)
weights_long d head call =
    length-append (head.offset ∷ head.coeffs) ((neg_ℤ call.offset -ℤ pos d) ∷ map neg_ℤ call.coeffs)
    ∙ sym (length-append (head.offset ∷ head.coeffs) ((neg_ℤ call.offset -ℤ pos 1) ∷ map neg_ℤ call.coeffs))

module _ (p : Listing) (comps : Partition) (parts : LexParts) (lists : HaveLists p comps parts) (drops : HaveDrops p comps parts) where
  list_parts : (vars : ℕ) (a : Atom) → IsAtom p.preds vars a → AllByRecursion (AllByRecursion (IsLevelPart (length a.args))) (list_at parts.lists a.pred.0)
  list_parts vars a is =
      let (d, at, arity) = some_and (λ (x : Pred). x.arity ≡ length a.args) (slice_get p.preds a.pred.0) is.arity in
      subst (λ (n : ℕ). AllByRecursion (AllByRecursion (IsLevelPart n)) (list_at parts.lists a.pred.0)) arity (lists.naturals a.pred.0 d at)

  -- at a call of the own component
  module _ (k j : ℕ) (c : Clause) (b : Atom) (sound : IsClause p.preds c) (at : slice_get p.clauses k ≡ Some c) (ej : slice_get c.body j ≡ Some b) (together : AreTogether comps c.head.pred.0 b.pred.0) where
    abbrev proofs : List (List Multipliers)
    proofs = list_at (list_at parts.drops k) j

    abbrev heads : List (List LevelPart)
    heads = list_at parts.lists c.head.pred.0

    abbrev rows : ℕ
    rows = row_count (rows_of parts.rows) (take j c.body)

    few : (m : ℕ) → length (list_at proofs m) ≤ length (list_at heads m)
    few m = elim (cases_lt m (length heads)) [
      | inl lt ↦ (drops.places k j m c b at ej together lt).few
      | inr le ↦ (let past = ap length (list_past proofs m (omega (arith, le, drops.lists k j c b at ej together))) in omega (arith, past))
    ]

    multipliers : (m : ℕ) → AllByRecursion (AreMultipliers rows) (list_at proofs m)
    multipliers m = elim (cases_lt m (length heads)) [
      | inl lt ↦ (drops.places k j m c b at ej together lt).multipliers
      | inr le ↦ subst (AllByRecursion (AreMultipliers rows)) (sym (list_past proofs m (omega (arith, le, drops.lists k j c b at ej together)))) tt
    ]

    pub lists_at : AreListsAt rows c b heads (list_at parts.lists b.pred.0) proofs
    lists_at = record {
      head_parts = list_parts c.vars c.head sound.head;
      call_parts = list_parts c.vars b (by_places (IsAtom p.preds c.vars) c.body sound.body j b ej);
      few_heads = few;
      few_calls = λ m. omega (arith, few m, length_at heads (list_at parts.lists b.pred.0) m (lists.members c.head.pred.0 b.pred.0 together));
      multipliers = multipliers;
    }

-- over the columns of a head and of a call
module _ (size : (ℕ → ℕ) → Tree → ℕ) (truth : (ℕ → Bool) → Tree → Bool) (expression : ℕ → Tree → List ℤ) (norm : IsNorm size truth expression)
    (n : ℕ) (c : Clause) (b : Atom) (columns : List (List ℤ)) (are : AreFallColumns (map (expression c.vars) c.head.args) (map (expression c.vars) b.args) c.vars columns)
    (heads calls : List (List LevelPart)) (proofs : List (List Multipliers)) (lists : AreListsAt n c b heads calls proofs) where
  pub can_drop : (m : ℕ) → CanDrop n columns (list_at heads m) (list_at calls m) (list_at proofs m)
  can_drop m = record {
    few_heads = lists.few_heads m;
    few_calls = lists.few_calls m;
    multipliers = lists.multipliers m;
    weighed = can_weigh c b columns (list_at heads m) (list_at calls m) (all_at (IsLevelPart (length c.head.args)) heads m lists.head_parts) (all_at (IsLevelPart (length b.args)) calls m lists.call_parts) expression are;
  }

  target : (m i d : ℕ) (head call : LevelPart) → slice_get (list_at heads m) i ≡ Some head → over_columns columns (drop_weights d head call) ≡ drop_of expression d c b head call
  target m i d head call eh =
      drop_target size truth expression norm d c b head call columns (by_places (IsLevelPart (length c.head.args)) (list_at heads m) (all_at (IsLevelPart (length c.head.args)) heads m lists.head_parts) i head eh).each are

  -- the rows that are tested are the drops
  pub drops_decided : (P : Type 0) (rows : List (List ℤ)) → P ↔ ((m : ℕ) → AreShown rows columns (list_at heads m) (list_at calls m) (list_at proofs m))
      → P ↔ ((m : ℕ) → MeasuresDrop expression rows c b (list_at heads m) (list_at calls m) (list_at proofs m))
  drops_decided P rows decides = (
    λ yes m i head call by eh ec eb. subst (λ (z : List ℤ). IsShown rows z by) (target m i (drop_at i (length (list_at proofs m))) head call eh) (decides.0 yes m i head call by eh ec eb),
    λ all. decides.1 (λ m i head call by eh ec eb. subst (λ (z : List ℤ). IsShown rows z by) (sym (target m i (drop_at i (length (list_at proofs m))) head call eh)) (all m i head call by eh ec eb)),
  )

nothing_at : {X : Type 0} (i : ℕ) (x : X) → slice_get [] i ≡ Some x → ⊥
nothing_at i x e = cc

-- past the end there are no multipliers
pub shown_past : (rs columns : List (List ℤ)) (hs cs : List LevelPart) (mss : List (List Multipliers)) (m : ℕ) → length mss ≤ m → AreShown rs columns hs cs (list_at mss m)
shown_past rs columns hs cs mss m le i head call by eh ec eb = absurd (nothing_at i by (subst (λ (ms : List Multipliers). slice_get ms i ≡ Some by) (list_past mss m le) eb))
