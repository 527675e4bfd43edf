-- The modes that facts print are those of the parts, and what is known of these is known of the facts.
use Rattle.std.proofs.Common.{◌≡◌, ℕ, suc, ◌+◌, IsTrue, List, [], ◌∷◌, slice_get, Option, None, Some, refl, subst, arith}
use Rattle.std.specs.List.{AllByRecursion}
use Rattle.call_components.proofs.Lists.{all_append, all_map}
use Rattle.cert_checker.specs.Bounding.{ModeIsBounded}
use Rattle.cert_structure.specs.Order.{pred_text}
use Rattle.cti_terms.specs.Listing.{Listing}
use Rattle.cti_terms.specs.Tree.{is_rigid}
use Rattle.number_tests.specs.declared.refutation.Refutation.{Refutation}
use Rattle.lex_checker.specs.Bounding.{FactIsBounded, ModesAreBounded}
use Rattle.lex_certificate.specs.Order as order
use Rattle.fact_reading.specs.Numbered.{facts_from, lines_from}
use Rattle.lex_certificate.specs.Structure.{AreNotes}
use Rattle.lex_certificate.specs.declared.fact.LexFact.{LexFact}
use Rattle.lex_certificate.specs.declared.fact.LexFact.TheVariants as lex
use Rattle.lex_certificate.specs.declared.parts.LexParts.{LexParts}

each_facts : {A : Type 0} → (Q : LexFact → Type 0) (facts : ℕ → A → List LexFact) (i : ℕ) (xs : List A)
    → ((k n : ℕ) (x : A) → n ≡ i + k → slice_get xs k ≡ Some x → AllByRecursion Q (facts n x)) → AllByRecursion Q (facts_from i facts xs)
each_facts Q facts i [] h = tt
each_facts Q facts i (x ∷ xs) h = all_append Q (facts i x) (facts_from (suc i) facts xs) (h 0 i x (omega arith) refl) (each_facts Q facts (suc i) xs (λ k n y at e. h (suc k) n y (omega (arith, at)) e))

all_facts : {A : Type 0} → (Q : LexFact → Type 0) (facts : ℕ → A → List LexFact) (i : ℕ) (xs : List A) → ((n : ℕ) (x : A) → AllByRecursion Q (facts n x)) → AllByRecursion Q (facts_from i facts xs)
all_facts Q facts i xs h = each_facts Q facts i xs (λ k n x at e. h n x)

all_lines : {A : Type 0} → (Q : LexFact → Type 0) (line : ℕ → A → LexFact) (i : ℕ) (xs : List A) → ((n : ℕ) (x : A) → Q (line n x)) → AllByRecursion Q (lines_from i line xs)
all_lines Q line i xs h = all_facts Q (λ k x. line k x ∷ []) i xs (λ n x. (h n x, tt))

-- a note prints no mode
note_is_bounded : (p : Listing) (names : List (List ℕ)) (f : LexFact) → IsTrue (order.is_note f) → FactIsBounded p names f
note_is_bounded p names (lex.Terminates pred modes) h = cc
note_is_bounded p names _ h = tt

module _ (p : Listing) (names : List (List ℕ)) where
  abbrev Q : LexFact → Type 0
  Q = FactIsBounded p names

  stuck_bounded : (a : ℕ) (o : Option Refutation) → AllByRecursion Q (order.stuck_lines (pred_text p names a) o)
  stuck_bounded a None = tt
  stuck_bounded a (Some r) = (tt, all_lines Q (λ _ x. order.point_line x) 0 r.points (λ n x. tt))

  pub listed_bounded : (parts : LexParts) (notes : List LexFact) → AreNotes notes
      → ((q : ℕ) (modes : List (List ℕ)) → slice_get parts.modes q ≡ Some modes → AllByRecursion (ModeIsBounded p names is_rigid (pred_text p names q)) modes)
      → ModesAreBounded p names (order.listed p names parts notes)
  listed_bounded parts notes are h = (
    tt,
    all_append Q (order.mode_facts p names parts.modes) _ (each_facts Q (λ a ms. lex.Terminates (pred_text p names a) ms ∷ []) 0 parts.modes (λ k n ms at e. (subst (λ (q : ℕ). AllByRecursion (ModeIsBounded p names is_rigid (pred_text p names q)) ms) (let same : k ≡ n = omega (arith, at) in same) (h k ms e), tt)))
        (all_append Q (order.size_facts p names parts.rows) _ (all_facts Q _ 0 parts.rows (λ a r. all_lines Q _ 0 r.list (λ n x. tt)))
        (all_append Q (order.proof_facts parts.row_proofs) _ (all_facts Q _ 0 parts.row_proofs (λ k ms. all_lines Q _ 0 ms (λ n x. tt)))
        (all_append Q (order.ground_facts p names parts.grounds) _ (all_facts Q _ 0 parts.grounds (λ a cs. all_lines Q _ 0 cs (λ n x. tt)))
        (all_append Q (order.level_facts p names parts.lists) _ (all_facts Q _ 0 parts.lists (λ a own. all_facts Q _ 0 own (λ m ls. all_lines Q _ 0 ls (λ n x. tt))))
        (all_append Q (order.drop_facts parts.drops) _ (all_facts Q _ 0 parts.drops (λ k calls. all_facts Q _ 0 calls (λ j lists. all_facts Q _ 0 lists (λ m ms. all_lines Q _ 0 ms (λ n x. tt)))))
        (all_append Q (order.pre_facts p names parts.preconditions) _ (all_facts Q _ 0 parts.preconditions (λ a ms. all_facts Q _ 0 ms (λ m cs. all_lines Q _ 0 cs (λ n x. tt))))
        (all_append Q (order.stuck_facts p names parts.stuck) notes (all_facts Q _ 0 parts.stuck (λ a r. stuck_bounded a r))
        (all_map (λ f. IsTrue (order.is_note f)) Q (note_is_bounded p names) notes are)))))))),
  )
