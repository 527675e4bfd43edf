-- Steps of the search for values that break the rule.
use Rattle.std.proofs.Common.{◌≡◌, ◌↔◌, ℕ, ◌+◌, ◌<◌, ◌≤◌, Bool, true, false, not, IsTrue, if◌then◌else◌, List, slice_get, length, Some, ◌⊎◌, inl, inr, refl, subst, arith}
use Rattle.truth_rows.specs.Ready.{HasAtom, HasAtoms}
use Rattle.truth_rows.specs.Rules.{same_rank}
use Rattle.termination_model.proofs.Lists.{one_element, place_below}
use Rattle.bool_diagrams.specs.declared.diagram.Diagram.{Diagram}
use Rattle.bool_diagrams.specs.Rows.{Keeps}
use Rattle.bool_diagrams.specs.Tree.{Tree as Rows}
use Rattle.cti_terms.specs.Tree.{Tree}
use Rattle.cti_terms.specs.declared.atom_list.Atom.{Atom}
use Rattle.cti_terms.specs.declared.clauses.Clause.{Clause}
use Rattle.truth_rows.proofs.AtomLaws.{atom_later, chosen_ready}
use Rattle.truth_rows.proofs.ClauseLaws.{atoms_later, ready_clause_later}
use Rattle.precond_fixpoint.specs.Breaking.{AreReadyFor, Breaks, BreaksAt, BreaksBelow}

pub not_outside : (b : Bool) → not b ≡ true → IsTrue b → ⊥
not_outside true h t = cc
not_outside false h t = cc

pub outside_not : (b : Bool) → (IsTrue b → ⊥) → not b ≡ true
outside_not true h = absurd (h refl)
outside_not false h = refl

below_or_at : (j n : ℕ) → j < n + 1 → (j < n) ⊎ (j ≡ n)
below_or_at j n l = grind arith

module _ (truth : (ℕ → Bool) → Tree → Bool) (trees : List Rows) (ranks : List ℕ) (grounds pre allowed : List Diagram) (k : Clause) (v : ℕ → Bool) where
  abbrev pub Leaves : ℕ → Atom → Type 0
  Leaves n b = (HasAtom truth trees pre v k.head × HasAtoms truth trees grounds v k.body n) × (HasAtom truth trees (if same_rank ranks b.pred.0 k.head.pred.0 then pre else allowed) v b → ⊥)

  -- one of the first n calls breaks the rule, or the next one does
  breaks_more : (n : ℕ) (b : Atom) → slice_get k.body n ≡ Some b
      → (BreaksBelow truth trees ranks grounds pre allowed k n v ⊎ Leaves n b) ↔ BreaksBelow truth trees ranks grounds pre allowed k (n + 1) v
  breaks_more n b at = (forth, back)
    where
      forth : BreaksBelow truth trees ranks grounds pre allowed k n v ⊎ Leaves n b → BreaksBelow truth trees ranks grounds pre allowed k (n + 1) v
      forth (inl h) = let l = h.1.1 in (h.0, (h.1.0, omega arith, h.1.2))
      forth (inr h) = (h.0.0, (n, omega arith, record { call = b; there = at; reached = h.0.1; outside = h.1 }))

      here : HasAtom truth trees pre v k.head → (j : ℕ) → j ≡ n → BreaksAt truth trees ranks grounds pre allowed k v j → Leaves n b
      here head j e x =
          let there : slice_get k.body n ≡ Some x.call = subst (λ (i : ℕ). slice_get k.body i ≡ Some x.call) e x.there in
          let same : x.call ≡ b = one_element k.body n x.call b there at in (
            (head, subst (λ (i : ℕ). HasAtoms truth trees grounds v k.body i) e x.reached),
            subst (λ (a : Atom). HasAtom truth trees (if same_rank ranks a.pred.0 k.head.pred.0 then pre else allowed) v a → ⊥) same x.outside,
          )

      back : BreaksBelow truth trees ranks grounds pre allowed k (n + 1) v → BreaksBelow truth trees ranks grounds pre allowed k n v ⊎ Leaves n b
      back h = elim (below_or_at h.1.0 n h.1.1) [
        | inl l ↦ inl (h.0, (h.1.0, l, h.1.2))
        | inr e ↦ inr (here h.0 h.1.0 e h.1.2)
      ]

  -- the same beside what the values say of places
  pub breaks_beside : (H : Type 0) (n : ℕ) (b : Atom) → slice_get k.body n ≡ Some b
      → ((BreaksBelow truth trees ranks grounds pre allowed k n v × H) ⊎ ((HasAtom truth trees pre v k.head × HasAtoms truth trees grounds v k.body n × H) × (HasAtom truth trees (if same_rank ranks b.pred.0 k.head.pred.0 then pre else allowed) v b → ⊥)))
      ↔ (BreaksBelow truth trees ranks grounds pre allowed k (n + 1) v × H)
  breaks_beside H n b at = (forth, back)
    where
      more : (BreaksBelow truth trees ranks grounds pre allowed k n v ⊎ Leaves n b) ↔ BreaksBelow truth trees ranks grounds pre allowed k (n + 1) v
      more = breaks_more n b at

      forth : (BreaksBelow truth trees ranks grounds pre allowed k n v × H) ⊎ ((HasAtom truth trees pre v k.head × HasAtoms truth trees grounds v k.body n × H) × (HasAtom truth trees (if same_rank ranks b.pred.0 k.head.pred.0 then pre else allowed) v b → ⊥))
          → BreaksBelow truth trees ranks grounds pre allowed k (n + 1) v × H
      forth (inl h) = (more.0 (inl h.0), h.1)
      forth (inr h) = (more.0 (inr ((h.0.0, h.0.1), h.1)), h.0.2)

      back : BreaksBelow truth trees ranks grounds pre allowed k (n + 1) v × H
          → (BreaksBelow truth trees ranks grounds pre allowed k n v × H) ⊎ ((HasAtom truth trees pre v k.head × HasAtoms truth trees grounds v k.body n × H) × (HasAtom truth trees (if same_rank ranks b.pred.0 k.head.pred.0 then pre else allowed) v b → ⊥))
      back h = elim (more.1 h.0) [
        | inl l ↦ inl (l, h.1)
        | inr r ↦ inr ((r.0.0, r.0.1, h.1), r.1)
      ]

  pub all_breaks : (n : ℕ) → length k.body ≤ n → BreaksBelow truth trees ranks grounds pre allowed k n v → Breaks truth trees ranks grounds pre allowed k v
  all_breaks n l h = (h.0, (h.1.0, h.1.2))

  pub breaks_all : (n : ℕ) → length k.body ≤ n → Breaks truth trees ranks grounds pre allowed k v → BreaksBelow truth trees ranks grounds pre allowed k n v
  breaks_all n l h = let lt = place_below k.body h.1.0 h.1.1.call h.1.1.there in (h.0, (h.1.0, omega arith, h.1.1))

module _ (truth : (ℕ → Bool) → Tree → Bool) (old new : List Rows) (K : Keeps old new) (ranks : List ℕ) (grounds pre allowed : List Diagram) (k : Clause) (ready : AreReadyFor old ranks grounds pre allowed k) where
  pub ready_for_later : AreReadyFor new ranks grounds pre allowed k
  ready_for_later = record {
    head = ready.head;
    body = ready.body;
    grounds_ready = ready_clause_later old new K grounds k ready.grounds_ready;
    pre_ready = ready_clause_later old new K pre k ready.pre_ready;
    allowed_ready = ready_clause_later old new K allowed k ready.allowed_ready;
  }

  -- a call's set has the same rows in a table that keeps what another had
  call_later : (v : ℕ → Bool) (j : ℕ) (b : Atom) → slice_get k.body j ≡ Some b
      → HasAtom truth new (if same_rank ranks b.pred.0 k.head.pred.0 then pre else allowed) v b ↔ HasAtom truth old (if same_rank ranks b.pred.0 k.head.pred.0 then pre else allowed) v b
  call_later v j b at =
      atom_later old new K (if same_rank ranks b.pred.0 k.head.pred.0 then pre else allowed) k.vars b
      (chosen_ready old pre allowed k.vars b (same_rank ranks b.pred.0 k.head.pred.0) (ready.pre_ready.body j b at) (ready.allowed_ready.body j b at)) truth v

  pub breaks_later : (v : ℕ → Bool) → Breaks truth new ranks grounds pre allowed k v ↔ Breaks truth old ranks grounds pre allowed k v
  breaks_later v = (forth, back)
    where
      head : HasAtom truth new pre v k.head ↔ HasAtom truth old pre v k.head
      head = atom_later old new K pre k.vars k.head ready.pre_ready.head truth v

      forth : Breaks truth new ranks grounds pre allowed k v → Breaks truth old ranks grounds pre allowed k v
      forth h =
          let x = h.1.1 in (
            head.0 h.0,
            (
              h.1.0,
              record {
                call = x.call;
                there = x.there;
                reached = (atoms_later truth old new K grounds k ready.grounds_ready v h.1.0).0 x.reached;
                outside = λ has. x.outside ((call_later v h.1.0 x.call x.there).1 has);
              },
            ),
          )

      back : Breaks truth old ranks grounds pre allowed k v → Breaks truth new ranks grounds pre allowed k v
      back h =
          let x = h.1.1 in (
            head.1 h.0,
            (
              h.1.0,
              record {
                call = x.call;
                there = x.there;
                reached = (atoms_later truth old new K grounds k ready.grounds_ready v h.1.0).1 x.reached;
                outside = λ has. x.outside ((call_later v h.1.0 x.call x.there).0 has);
              },
            ),
          )
