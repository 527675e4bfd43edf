-- Each reader of one fact takes the line of what it gives, and gives what a line shows.
use Rattle.std.proofs.Common.{◌≡◌, ℕ, suc, ◌≤◌, ◌⊎◌, inl, inr, ◌&&◌, ◌==◌, Some, None, refl, sym, ◌∙◌, eqb-true, eq-eqb}
use Rattle.std.proofs.lemmas.Bool.{and_parts}
use Rattle.std.proofs.lemmas.Bool.Decides.{Decides-int_eq}
use Rattle.std.specs.Prelude.{pos}
use Rattle.std.specs.Ordering.{int_eq}
use Rattle.cert_structure.specs.Shape.{HaveMultipliers, IsLevel}
use Rattle.cert_structure.specs.Walk.{same_pred, multipliers_read, level_read}
use Rattle.cert_structure.proofs.ContentLemmas.{other_taken, placed, kept_is, same_is, same_itself, multipliers_are, multipliers_back, level_is, level_back}
use Rattle.certificate.specs.declared.pred_text.PredText.{PredText}
use Rattle.fact_reading.proofs.SectionLemmas.{IsTaken, IsBack}
use Rattle.lex_certificate.specs.declared.fact.LexFact.TheVariants as lex
use Rattle.lex_certificate.specs.Order.{level_line, drops_line}
use Rattle.lex_certificate.specs.Walk.{shared, take_version, take_level, take_drop}
use Rattle.cert_structure.specs.Walk.{shared_refuted}
use Rattle.lex_certificate.proofs.KindLemmas.{fact_line, is_line, seen, split_version, split_level, split_drop, IsVersion, IsLevelFact, IsDrops}
use Rattle.cert_structure.proofs.SharedLemmas as laws

pub version_taken : IsTaken take_version (λ _ version. lex.Ctilex version) (λ version. version ≡ pos 1)
unfolding take_version
version_taken i f x e = go (split_version f)
  where
    go : ((i : ℕ) → take_version i f ≡ Some None) ⊎ IsVersion f → (f ≡ lex.Ctilex x) × (x ≡ pos 1)
    go (inl none) = other_taken (take_version i f) x (none i) e
    go (inr (version, is)) =
        let (right, same) = kept_is (int_eq version (pos 1)) version x (rw is at e) in
        (rw (is, same) refl, sym same ∙ (Decides-int_eq version (pos 1)).0 right)

pub version_given : IsBack take_version (λ _ version. lex.Ctilex version) (λ version. version ≡ pos 1)
unfolding take_version
version_given i x h = rw ((Decides-int_eq x (pos 1)).1 h) refl

pub level_taken : (pred : PredText) (m : ℕ) → IsTaken (take_level pred m) (level_line pred m) (IsLevel pred.arity)
unfolding take_level
level_taken pred m i f x e = go (split_level f)
  where
    go : ((q : PredText) (m j : ℕ) → take_level q m j f ≡ Some None) ⊎ IsLevelFact f → (f ≡ level_line pred m i x) × IsLevel pred.arity x
    go (inl none) = other_taken (take_level pred m i f) x (none pred m i) e
    go (inr (q, list, index, coeffs, offset, is)) =
        let (here, some) = placed (same_pred q pred && ((list == suc m) && (index == suc i))) (level_read pred.arity coeffs offset) x (rw is at e) in
        let (same, more) = and_parts (same_pred q pred) ((list == suc m) && (index == suc i)) here in
        let (two, number) = and_parts (list == suc m) (index == suc i) more in
        let (whole, right) = level_is pred.arity coeffs offset x some in
        (rw (is, same_is q pred same, eqb-true list (suc m) two, eqb-true index (suc i) number, ← whole) refl, right)

pub level_given : (pred : PredText) (m : ℕ) → IsBack (take_level pred m) (level_line pred m) (IsLevel pred.arity)
unfolding take_level
level_given pred m i x h = rw (same_itself pred, eq-eqb (suc m) (suc m) refl, eq-eqb (suc i) (suc i) refl, level_back pred.arity x h) refl

pub drop_taken : (k j rows m : ℕ) → IsTaken (take_drop k j rows m) (drops_line k j m) (HaveMultipliers rows)
unfolding take_drop
drop_taken k j rows m i f x e = go (split_drop f)
  where
    go : ((k j rows m i : ℕ) → take_drop k j rows m i f ≡ Some None) ⊎ IsDrops f → (f ≡ drops_line k j m i x) × HaveMultipliers rows x
    go (inl none) = other_taken (take_drop k j rows m i f) x (none k j rows m i) e
    go (inr (clause, call, list, index, scale, numbers, is)) =
        let (here, some) = placed ((clause == suc k) && ((call == suc j) && ((list == suc m) && (index == suc i)))) (multipliers_read rows scale numbers) x (rw is at e) in
        let (one, more) = and_parts (clause == suc k) ((call == suc j) && ((list == suc m) && (index == suc i))) here in
        let (two, others) = and_parts (call == suc j) ((list == suc m) && (index == suc i)) more in
        let (three, four) = and_parts (list == suc m) (index == suc i) others in
        let (whole, right) = multipliers_are rows scale numbers x some in
        (rw (is, eqb-true clause (suc k) one, eqb-true call (suc j) two, eqb-true list (suc m) three, eqb-true index (suc i) four, ← whole) refl, right)

pub drop_given : (k j rows m : ℕ) → IsBack (take_drop k j rows m) (drops_line k j m) (HaveMultipliers rows)
unfolding take_drop
drop_given k j rows m i x h =
    rw (eq-eqb (suc k) (suc k) refl, eq-eqb (suc j) (suc j) refl, eq-eqb (suc m) (suc m) refl, eq-eqb (suc i) (suc i) refl, multipliers_back rows x h) refl

-- the number of points, as certificates of mappings have it too
pub refuted_taken : (pred : PredText) → IsTaken (λ i f. shared_refuted pred i (shared f)) (λ _ n. lex.Refuted pred n) (λ n. 1 ≤ n)
refuted_taken pred = laws.count_taken shared fact_line is_line seen pred

pub refuted_given : (pred : PredText) → IsBack (λ i f. shared_refuted pred i (shared f)) (λ _ n. lex.Refuted pred n) (λ n. 1 ≤ n)
refuted_given pred = laws.count_given shared fact_line is_line seen pred
