-- For each kind of reader: a fact is of its kind, or it takes nothing.
use Rattle.std.proofs.Common.{◌≡◌, ℕ, ◌⊎◌, inl, inr, List, Some, None, refl}
use Rattle.std.specs.Prelude.{ℤ}
use Rattle.call_components.specs.Partition.{Partition}
use Rattle.certificate.specs.declared.pred_text.PredText.{PredText}
use Rattle.cti_terms.specs.Listing.{Listing}
use Rattle.lex_certificate.specs.declared.fact.LexFact.{LexFact}
use Rattle.lex_certificate.specs.declared.fact.LexFact.TheVariants as lex
use Rattle.lex_certificate.specs.Walk.{shared, take_version, take_level, take_drop, take_point}
use Rattle.cert_structure.specs.SharedFacts.{Shared}
use Rattle.cert_structure.specs.SharedFacts as says

-- the place of a fact's kind in the order of the format
abbrev pub kind : LexFact → ℕ
kind (lex.Ctilex version) = 0
kind (lex.Terminates q modes) = 1
kind (lex.Size q index row) = 2
kind (lex.By clause index scale list) = 3
kind (lex.Grounds q index cells) = 4
kind (lex.Level q list index coeffs offset) = 5
kind (lex.Drops clause call list index scale numbers) = 6
kind (lex.Pre q list index cells) = 7
kind (lex.Refuted q points) = 8
kind (lex.Point clause call t w) = 8
kind (lex.Image step clause q rows) = 9
kind (lex.Step step q how rows) = 9
kind (lex.WeakImage step) = 9
kind (lex.WeakStep step) = 9
kind (lex.Blown q) = 9

-- the fact that says what certificates of mappings have too; where nothing is said, any fact
abbrev pub fact_line : Shared → LexFact
fact_line (says.modes q modes) = lex.Terminates q modes
fact_line (says.row q index row) = lex.Size q index row
fact_line (says.proof clause index scale list) = lex.By clause index scale list
fact_line (says.ground q index cells) = lex.Grounds q index cells
fact_line (says.pre q list index cells) = lex.Pre q list index cells
fact_line (says.refuted q points) = lex.Refuted q points
fact_line says.other = lex.WeakStep 0

pub is_line : (f : LexFact) → (shared f ≡ says.other) ⊎ (f ≡ fact_line (shared f))
is_line (lex.Ctilex version) = inl refl
is_line (lex.Terminates q modes) = inr refl
is_line (lex.Size q index row) = inr refl
is_line (lex.By clause index scale list) = inr refl
is_line (lex.Grounds q index cells) = inr refl
is_line (lex.Level q list index coeffs offset) = inl refl
is_line (lex.Drops clause call list index scale numbers) = inl refl
is_line (lex.Pre q list index cells) = inr refl
is_line (lex.Refuted q points) = inr refl
is_line (lex.Point clause call t w) = inl refl
is_line (lex.Image step clause q rows) = inl refl
is_line (lex.Step step q how rows) = inl refl
is_line (lex.WeakImage step) = inl refl
is_line (lex.WeakStep step) = inl refl
is_line (lex.Blown q) = inl refl

pub seen : (x : Shared) → (x ≡ says.other) ⊎ (shared (fact_line x) ≡ x)
seen (says.modes q modes) = inr refl
seen (says.row q index row) = inr refl
seen (says.proof clause index scale list) = inr refl
seen (says.ground q index cells) = inr refl
seen (says.pre q list index cells) = inr refl
seen (says.refuted q points) = inr refl
seen says.other = inl refl

abbrev pub IsVersion : LexFact → Type 0
IsVersion f = (version : ℤ) × (f ≡ lex.Ctilex version)

pub split_version : (f : LexFact) → ((i : ℕ) → take_version i f ≡ Some None) ⊎ IsVersion f
unfolding take_version
split_version (lex.Ctilex version) = inr (version, refl)
split_version (lex.Terminates q modes) = inl (λ i. refl)
split_version (lex.Size q index row) = inl (λ i. refl)
split_version (lex.By clause index scale list) = inl (λ i. refl)
split_version (lex.Grounds q index cells) = inl (λ i. refl)
split_version (lex.Level q list index coeffs offset) = inl (λ i. refl)
split_version (lex.Drops clause call list index scale numbers) = inl (λ i. refl)
split_version (lex.Pre q list index cells) = inl (λ i. refl)
split_version (lex.Refuted q points) = inl (λ i. refl)
split_version (lex.Point clause call t w) = inl (λ i. refl)
split_version (lex.Image step clause q rows) = inl (λ i. refl)
split_version (lex.Step step q how rows) = inl (λ i. refl)
split_version (lex.WeakImage step) = inl (λ i. refl)
split_version (lex.WeakStep step) = inl (λ i. refl)
split_version (lex.Blown q) = inl (λ i. refl)

abbrev pub IsLevelFact : LexFact → Type 0
IsLevelFact f = (q : PredText) × (list : ℕ) × (index : ℕ) × (coeffs : List ℤ) × (offset : ℤ) × (f ≡ lex.Level q list index coeffs offset)

pub split_level : (f : LexFact) → ((pred : PredText) (m i : ℕ) → take_level pred m i f ≡ Some None) ⊎ IsLevelFact f
unfolding take_level
split_level (lex.Ctilex version) = inl (λ pred m i. refl)
split_level (lex.Terminates q modes) = inl (λ pred m i. refl)
split_level (lex.Size q index row) = inl (λ pred m i. refl)
split_level (lex.By clause index scale list) = inl (λ pred m i. refl)
split_level (lex.Grounds q index cells) = inl (λ pred m i. refl)
split_level (lex.Level q list index coeffs offset) = inr (q, list, index, coeffs, offset, refl)
split_level (lex.Drops clause call list index scale numbers) = inl (λ pred m i. refl)
split_level (lex.Pre q list index cells) = inl (λ pred m i. refl)
split_level (lex.Refuted q points) = inl (λ pred m i. refl)
split_level (lex.Point clause call t w) = inl (λ pred m i. refl)
split_level (lex.Image step clause q rows) = inl (λ pred m i. refl)
split_level (lex.Step step q how rows) = inl (λ pred m i. refl)
split_level (lex.WeakImage step) = inl (λ pred m i. refl)
split_level (lex.WeakStep step) = inl (λ pred m i. refl)
split_level (lex.Blown q) = inl (λ pred m i. refl)

abbrev pub IsDrops : LexFact → Type 0
IsDrops f = (clause : ℕ) × (call : ℕ) × (list : ℕ) × (index : ℕ) × (scale : ℤ) × (numbers : List ℤ) × (f ≡ lex.Drops clause call list index scale numbers)

pub split_drop : (f : LexFact) → ((k j rows m i : ℕ) → take_drop k j rows m i f ≡ Some None) ⊎ IsDrops f
unfolding take_drop
split_drop (lex.Ctilex version) = inl (λ k j rows m i. refl)
split_drop (lex.Terminates q modes) = inl (λ k j rows m i. refl)
split_drop (lex.Size q index row) = inl (λ k j rows m i. refl)
split_drop (lex.By clause index scale list) = inl (λ k j rows m i. refl)
split_drop (lex.Grounds q index cells) = inl (λ k j rows m i. refl)
split_drop (lex.Level q list index coeffs offset) = inl (λ k j rows m i. refl)
split_drop (lex.Drops clause call list index scale numbers) = inr (clause, call, list, index, scale, numbers, refl)
split_drop (lex.Pre q list index cells) = inl (λ k j rows m i. refl)
split_drop (lex.Refuted q points) = inl (λ k j rows m i. refl)
split_drop (lex.Point clause call t w) = inl (λ k j rows m i. refl)
split_drop (lex.Image step clause q rows) = inl (λ k j rows m i. refl)
split_drop (lex.Step step q how rows) = inl (λ k j rows m i. refl)
split_drop (lex.WeakImage step) = inl (λ k j rows m i. refl)
split_drop (lex.WeakStep step) = inl (λ k j rows m i. refl)
split_drop (lex.Blown q) = inl (λ k j rows m i. refl)

abbrev pub IsPointFact : LexFact → Type 0
IsPointFact f = (clause : ℕ) × (call : ℕ) × (t : ℤ) × (w : List ℤ) × (f ≡ lex.Point clause call t w)

pub split_point : (f : LexFact) → ((p : Listing) (comps : Partition) (a : ℕ) (last : ℕ × ℕ) (i : ℕ) → take_point p comps a last i f ≡ Some None) ⊎ IsPointFact f
unfolding take_point
split_point (lex.Ctilex version) = inl (λ p comps a last i. refl)
split_point (lex.Terminates q modes) = inl (λ p comps a last i. refl)
split_point (lex.Size q index row) = inl (λ p comps a last i. refl)
split_point (lex.By clause index scale list) = inl (λ p comps a last i. refl)
split_point (lex.Grounds q index cells) = inl (λ p comps a last i. refl)
split_point (lex.Level q list index coeffs offset) = inl (λ p comps a last i. refl)
split_point (lex.Drops clause call list index scale numbers) = inl (λ p comps a last i. refl)
split_point (lex.Pre q list index cells) = inl (λ p comps a last i. refl)
split_point (lex.Refuted q points) = inl (λ p comps a last i. refl)
split_point (lex.Point clause call t w) = inr (clause, call, t, w, refl)
split_point (lex.Image step clause q rows) = inl (λ p comps a last i. refl)
split_point (lex.Step step q how rows) = inl (λ p comps a last i. refl)
split_point (lex.WeakImage step) = inl (λ p comps a last i. refl)
split_point (lex.WeakStep step) = inl (λ p comps a last i. refl)
split_point (lex.Blown q) = inl (λ p comps a last i. refl)
