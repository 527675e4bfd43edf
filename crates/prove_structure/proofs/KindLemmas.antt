-- For each kind of reader: a fact is of its kind, or it takes nothing.
use Rattle.std.proofs.Common.{◌≡◌, ℕ, ◌⊎◌, inl, inr, false, List, Some, None, refl}
use Rattle.std.specs.Prelude.{ℤ}
use Rattle.call_components.specs.Partition.{Partition}
use Rattle.cert_structure.specs.SharedFacts.{Shared}
use Rattle.cert_structure.specs.SharedFacts as says
use Rattle.certificate.specs.declared.pred_text.PredText.{PredText}
use Rattle.cti_terms.specs.Listing.{Listing}
use Rattle.prove_certificate.specs.SharedFacts.{shared}
use Rattle.prove_certificate.specs.declared.fact.ProveFact.{ProveFact}
use Rattle.prove_certificate.specs.declared.fact.ProveFact.TheVariants as fact
use Rattle.prove_certificate.specs.declared.kind.CertKind.{CertKind}
use Rattle.prove_structure.specs.Walk.{is_fails, take_version, take_kinds, take_row, take_level, take_drop, take_bound, take_group, take_point, take_floor, take_count}

-- the place of a fact's kind in the order of the format
abbrev pub kind : ProveFact → ℕ
kind (fact.Ctiprove version) = 0
kind (fact.Terminates q modes) = 1
kind (fact.Kinds q kinds) = 2
kind (fact.Fails q) = 3
kind (fact.Size q index row) = 4
kind (fact.By clause index scale list) = 5
kind (fact.Grounds q index cells) = 6
kind (fact.Level q list index coeffs offset) = 7
kind (fact.Drops clause call list index scale numbers) = 8
kind (fact.Floors clause call list scale numbers) = 9
kind (fact.Pre q list index cells) = 10
kind (fact.Refuted q groups) = 11
kind (fact.Group clause call) = 11
kind (fact.Point clause call t w) = 11
kind (fact.Floor clause call t w) = 11
kind (fact.Image step clause q rows) = 12
kind (fact.Step step q how rows) = 12
kind (fact.WeakImage step) = 12
kind (fact.WeakStep step) = 12
kind (fact.Blown q support) = 12

-- the fact that says what certificates of mappings have too; where nothing is said, any fact
abbrev pub fact_line : Shared → ProveFact
fact_line (says.modes q modes) = fact.Terminates q modes
fact_line (says.row q index row) = fact.Size q index row
fact_line (says.proof clause index scale list) = fact.By clause index scale list
fact_line (says.ground q index cells) = fact.Grounds q index cells
fact_line (says.pre q list index cells) = fact.Pre q list index cells
fact_line (says.refuted q points) = fact.Refuted q points
fact_line says.other = fact.WeakStep 0

pub is_line : (f : ProveFact) → (shared f ≡ says.other) ⊎ (f ≡ fact_line (shared f))
is_line (fact.Ctiprove version) = inl refl
is_line (fact.Terminates q modes) = inr refl
is_line (fact.Kinds q kinds) = inl refl
is_line (fact.Fails q) = inl refl
is_line (fact.Size q index row) = inr refl
is_line (fact.By clause index scale list) = inr refl
is_line (fact.Grounds q index cells) = inr refl
is_line (fact.Level q list index coeffs offset) = inl refl
is_line (fact.Drops clause call list index scale numbers) = inl refl
is_line (fact.Floors clause call list scale numbers) = inl refl
is_line (fact.Pre q list index cells) = inr refl
is_line (fact.Refuted q groups) = inr refl
is_line (fact.Group clause call) = inl refl
is_line (fact.Point clause call t w) = inl refl
is_line (fact.Floor clause call t w) = inl refl
is_line (fact.Image step clause q rows) = inl refl
is_line (fact.Step step q how rows) = inl refl
is_line (fact.WeakImage step) = inl refl
is_line (fact.WeakStep step) = inl refl
is_line (fact.Blown q support) = inl refl

pub seen : (x : Shared) → (x ≡ says.other) ⊎ (shared (fact_line x) ≡ x)
seen (says.modes q modes) = inr refl
seen (says.row q index row) = inr refl
seen (says.proof clause index scale list) = inr refl
seen (says.ground q index cells) = inr refl
seen (says.pre q list index cells) = inr refl
seen (says.refuted q points) = inr refl
seen says.other = inl refl

abbrev pub IsVersion : ProveFact → Type 0
IsVersion f = (version : ℤ) × (f ≡ fact.Ctiprove version)

pub split_version : (f : ProveFact) → (((i : ℕ) → take_version i f ≡ Some None)) ⊎ IsVersion f
unfolding take_version
split_version (fact.Ctiprove version) = inr (version, refl)
split_version (fact.Terminates q modes) = inl (λ i. refl)
split_version (fact.Kinds q kinds) = inl (λ i. refl)
split_version (fact.Fails q) = inl (λ i. refl)
split_version (fact.Size q index row) = inl (λ i. refl)
split_version (fact.By clause index scale list) = inl (λ i. refl)
split_version (fact.Grounds q index cells) = inl (λ i. refl)
split_version (fact.Level q list index coeffs offset) = inl (λ i. refl)
split_version (fact.Drops clause call list index scale numbers) = inl (λ i. refl)
split_version (fact.Floors clause call list scale numbers) = inl (λ i. refl)
split_version (fact.Pre q list index cells) = inl (λ i. refl)
split_version (fact.Refuted q groups) = inl (λ i. refl)
split_version (fact.Group clause call) = inl (λ i. refl)
split_version (fact.Point clause call t w) = inl (λ i. refl)
split_version (fact.Floor clause call t w) = inl (λ i. refl)
split_version (fact.Image step clause q rows) = inl (λ i. refl)
split_version (fact.Step step q how rows) = inl (λ i. refl)
split_version (fact.WeakImage step) = inl (λ i. refl)
split_version (fact.WeakStep step) = inl (λ i. refl)
split_version (fact.Blown q support) = inl (λ i. refl)

abbrev pub IsKindsFact : ProveFact → Type 0
IsKindsFact f = (q : PredText) × (kinds : List CertKind) × (f ≡ fact.Kinds q kinds)

pub split_kinds : (f : ProveFact) → (((pred : PredText) (i : ℕ) → take_kinds pred i f ≡ Some None)) ⊎ IsKindsFact f
unfolding take_kinds
split_kinds (fact.Ctiprove version) = inl (λ pred i. refl)
split_kinds (fact.Terminates q modes) = inl (λ pred i. refl)
split_kinds (fact.Kinds q kinds) = inr (q, kinds, refl)
split_kinds (fact.Fails q) = inl (λ pred i. refl)
split_kinds (fact.Size q index row) = inl (λ pred i. refl)
split_kinds (fact.By clause index scale list) = inl (λ pred i. refl)
split_kinds (fact.Grounds q index cells) = inl (λ pred i. refl)
split_kinds (fact.Level q list index coeffs offset) = inl (λ pred i. refl)
split_kinds (fact.Drops clause call list index scale numbers) = inl (λ pred i. refl)
split_kinds (fact.Floors clause call list scale numbers) = inl (λ pred i. refl)
split_kinds (fact.Pre q list index cells) = inl (λ pred i. refl)
split_kinds (fact.Refuted q groups) = inl (λ pred i. refl)
split_kinds (fact.Group clause call) = inl (λ pred i. refl)
split_kinds (fact.Point clause call t w) = inl (λ pred i. refl)
split_kinds (fact.Floor clause call t w) = inl (λ pred i. refl)
split_kinds (fact.Image step clause q rows) = inl (λ pred i. refl)
split_kinds (fact.Step step q how rows) = inl (λ pred i. refl)
split_kinds (fact.WeakImage step) = inl (λ pred i. refl)
split_kinds (fact.WeakStep step) = inl (λ pred i. refl)
split_kinds (fact.Blown q support) = inl (λ pred i. refl)

abbrev pub IsFailsFact : ProveFact → Type 0
IsFailsFact f = (q : PredText) × (f ≡ fact.Fails q)

pub split_fails : (f : ProveFact) → (((pred : PredText) → is_fails pred f ≡ false)) ⊎ IsFailsFact f
unfolding is_fails
split_fails (fact.Ctiprove version) = inl (λ pred. refl)
split_fails (fact.Terminates q modes) = inl (λ pred. refl)
split_fails (fact.Kinds q kinds) = inl (λ pred. refl)
split_fails (fact.Fails q) = inr (q, refl)
split_fails (fact.Size q index row) = inl (λ pred. refl)
split_fails (fact.By clause index scale list) = inl (λ pred. refl)
split_fails (fact.Grounds q index cells) = inl (λ pred. refl)
split_fails (fact.Level q list index coeffs offset) = inl (λ pred. refl)
split_fails (fact.Drops clause call list index scale numbers) = inl (λ pred. refl)
split_fails (fact.Floors clause call list scale numbers) = inl (λ pred. refl)
split_fails (fact.Pre q list index cells) = inl (λ pred. refl)
split_fails (fact.Refuted q groups) = inl (λ pred. refl)
split_fails (fact.Group clause call) = inl (λ pred. refl)
split_fails (fact.Point clause call t w) = inl (λ pred. refl)
split_fails (fact.Floor clause call t w) = inl (λ pred. refl)
split_fails (fact.Image step clause q rows) = inl (λ pred. refl)
split_fails (fact.Step step q how rows) = inl (λ pred. refl)
split_fails (fact.WeakImage step) = inl (λ pred. refl)
split_fails (fact.WeakStep step) = inl (λ pred. refl)
split_fails (fact.Blown q support) = inl (λ pred. refl)

abbrev pub IsRowFact : ProveFact → Type 0
IsRowFact f = (q : PredText) × (index : ℕ) × (row : List ℤ) × (f ≡ fact.Size q index row)

pub split_row : (f : ProveFact) → (((pred : PredText) (width i : ℕ) → take_row pred width i f ≡ Some None)) ⊎ IsRowFact f
unfolding take_row
split_row (fact.Ctiprove version) = inl (λ pred width i. refl)
split_row (fact.Terminates q modes) = inl (λ pred width i. refl)
split_row (fact.Kinds q kinds) = inl (λ pred width i. refl)
split_row (fact.Fails q) = inl (λ pred width i. refl)
split_row (fact.Size q index row) = inr (q, index, row, refl)
split_row (fact.By clause index scale list) = inl (λ pred width i. refl)
split_row (fact.Grounds q index cells) = inl (λ pred width i. refl)
split_row (fact.Level q list index coeffs offset) = inl (λ pred width i. refl)
split_row (fact.Drops clause call list index scale numbers) = inl (λ pred width i. refl)
split_row (fact.Floors clause call list scale numbers) = inl (λ pred width i. refl)
split_row (fact.Pre q list index cells) = inl (λ pred width i. refl)
split_row (fact.Refuted q groups) = inl (λ pred width i. refl)
split_row (fact.Group clause call) = inl (λ pred width i. refl)
split_row (fact.Point clause call t w) = inl (λ pred width i. refl)
split_row (fact.Floor clause call t w) = inl (λ pred width i. refl)
split_row (fact.Image step clause q rows) = inl (λ pred width i. refl)
split_row (fact.Step step q how rows) = inl (λ pred width i. refl)
split_row (fact.WeakImage step) = inl (λ pred width i. refl)
split_row (fact.WeakStep step) = inl (λ pred width i. refl)
split_row (fact.Blown q support) = inl (λ pred width i. refl)

abbrev pub IsLevelFact : ProveFact → Type 0
IsLevelFact f = (q : PredText) × (list : ℕ) × (index : ℕ) × (coeffs : List ℤ) × (offset : ℤ) × (f ≡ fact.Level q list index coeffs offset)

pub split_level : (f : ProveFact) → (((pred : PredText) (width m i : ℕ) → take_level pred width m i f ≡ Some None)) ⊎ IsLevelFact f
unfolding take_level
split_level (fact.Ctiprove version) = inl (λ pred width m i. refl)
split_level (fact.Terminates q modes) = inl (λ pred width m i. refl)
split_level (fact.Kinds q kinds) = inl (λ pred width m i. refl)
split_level (fact.Fails q) = inl (λ pred width m i. refl)
split_level (fact.Size q index row) = inl (λ pred width m i. refl)
split_level (fact.By clause index scale list) = inl (λ pred width m i. refl)
split_level (fact.Grounds q index cells) = inl (λ pred width m i. refl)
split_level (fact.Level q list index coeffs offset) = inr (q, list, index, coeffs, offset, refl)
split_level (fact.Drops clause call list index scale numbers) = inl (λ pred width m i. refl)
split_level (fact.Floors clause call list scale numbers) = inl (λ pred width m i. refl)
split_level (fact.Pre q list index cells) = inl (λ pred width m i. refl)
split_level (fact.Refuted q groups) = inl (λ pred width m i. refl)
split_level (fact.Group clause call) = inl (λ pred width m i. refl)
split_level (fact.Point clause call t w) = inl (λ pred width m i. refl)
split_level (fact.Floor clause call t w) = inl (λ pred width m i. refl)
split_level (fact.Image step clause q rows) = inl (λ pred width m i. refl)
split_level (fact.Step step q how rows) = inl (λ pred width m i. refl)
split_level (fact.WeakImage step) = inl (λ pred width m i. refl)
split_level (fact.WeakStep step) = inl (λ pred width m i. refl)
split_level (fact.Blown q support) = inl (λ pred width m i. refl)

abbrev pub IsDrops : ProveFact → Type 0
IsDrops f = (clause : ℕ) × (call : ℕ) × (list : ℕ) × (index : ℕ) × (scale : ℤ) × (numbers : List ℤ) × (f ≡ fact.Drops clause call list index scale numbers)

pub split_drop : (f : ProveFact) → (((k j rows m i : ℕ) → take_drop k j rows m i f ≡ Some None)) ⊎ IsDrops f
unfolding take_drop
split_drop (fact.Ctiprove version) = inl (λ k j rows m i. refl)
split_drop (fact.Terminates q modes) = inl (λ k j rows m i. refl)
split_drop (fact.Kinds q kinds) = inl (λ k j rows m i. refl)
split_drop (fact.Fails q) = inl (λ k j rows m i. refl)
split_drop (fact.Size q index row) = inl (λ k j rows m i. refl)
split_drop (fact.By clause index scale list) = inl (λ k j rows m i. refl)
split_drop (fact.Grounds q index cells) = inl (λ k j rows m i. refl)
split_drop (fact.Level q list index coeffs offset) = inl (λ k j rows m i. refl)
split_drop (fact.Drops clause call list index scale numbers) = inr (clause, call, list, index, scale, numbers, refl)
split_drop (fact.Floors clause call list scale numbers) = inl (λ k j rows m i. refl)
split_drop (fact.Pre q list index cells) = inl (λ k j rows m i. refl)
split_drop (fact.Refuted q groups) = inl (λ k j rows m i. refl)
split_drop (fact.Group clause call) = inl (λ k j rows m i. refl)
split_drop (fact.Point clause call t w) = inl (λ k j rows m i. refl)
split_drop (fact.Floor clause call t w) = inl (λ k j rows m i. refl)
split_drop (fact.Image step clause q rows) = inl (λ k j rows m i. refl)
split_drop (fact.Step step q how rows) = inl (λ k j rows m i. refl)
split_drop (fact.WeakImage step) = inl (λ k j rows m i. refl)
split_drop (fact.WeakStep step) = inl (λ k j rows m i. refl)
split_drop (fact.Blown q support) = inl (λ k j rows m i. refl)

abbrev pub IsFloors : ProveFact → Type 0
IsFloors f = (clause : ℕ) × (call : ℕ) × (list : ℕ) × (scale : ℤ) × (numbers : List ℤ) × (f ≡ fact.Floors clause call list scale numbers)

pub split_bound : (f : ProveFact) → (((k j rows m : ℕ) → take_bound k j rows m f ≡ Some None)) ⊎ IsFloors f
unfolding take_bound
split_bound (fact.Ctiprove version) = inl (λ k j rows m. refl)
split_bound (fact.Terminates q modes) = inl (λ k j rows m. refl)
split_bound (fact.Kinds q kinds) = inl (λ k j rows m. refl)
split_bound (fact.Fails q) = inl (λ k j rows m. refl)
split_bound (fact.Size q index row) = inl (λ k j rows m. refl)
split_bound (fact.By clause index scale list) = inl (λ k j rows m. refl)
split_bound (fact.Grounds q index cells) = inl (λ k j rows m. refl)
split_bound (fact.Level q list index coeffs offset) = inl (λ k j rows m. refl)
split_bound (fact.Drops clause call list index scale numbers) = inl (λ k j rows m. refl)
split_bound (fact.Floors clause call list scale numbers) = inr (clause, call, list, scale, numbers, refl)
split_bound (fact.Pre q list index cells) = inl (λ k j rows m. refl)
split_bound (fact.Refuted q groups) = inl (λ k j rows m. refl)
split_bound (fact.Group clause call) = inl (λ k j rows m. refl)
split_bound (fact.Point clause call t w) = inl (λ k j rows m. refl)
split_bound (fact.Floor clause call t w) = inl (λ k j rows m. refl)
split_bound (fact.Image step clause q rows) = inl (λ k j rows m. refl)
split_bound (fact.Step step q how rows) = inl (λ k j rows m. refl)
split_bound (fact.WeakImage step) = inl (λ k j rows m. refl)
split_bound (fact.WeakStep step) = inl (λ k j rows m. refl)
split_bound (fact.Blown q support) = inl (λ k j rows m. refl)

abbrev pub IsGroupFact : ProveFact → Type 0
IsGroupFact f = (clause : ℕ) × (call : ℕ) × (f ≡ fact.Group clause call)

pub split_group : (f : ProveFact) → (((p : Listing) (comps : Partition) (a : ℕ) (last : ℕ × ℕ) (i : ℕ) → take_group p comps a last i f ≡ Some None)) ⊎ IsGroupFact f
unfolding take_group
split_group (fact.Ctiprove version) = inl (λ p comps a last i. refl)
split_group (fact.Terminates q modes) = inl (λ p comps a last i. refl)
split_group (fact.Kinds q kinds) = inl (λ p comps a last i. refl)
split_group (fact.Fails q) = inl (λ p comps a last i. refl)
split_group (fact.Size q index row) = inl (λ p comps a last i. refl)
split_group (fact.By clause index scale list) = inl (λ p comps a last i. refl)
split_group (fact.Grounds q index cells) = inl (λ p comps a last i. refl)
split_group (fact.Level q list index coeffs offset) = inl (λ p comps a last i. refl)
split_group (fact.Drops clause call list index scale numbers) = inl (λ p comps a last i. refl)
split_group (fact.Floors clause call list scale numbers) = inl (λ p comps a last i. refl)
split_group (fact.Pre q list index cells) = inl (λ p comps a last i. refl)
split_group (fact.Refuted q groups) = inl (λ p comps a last i. refl)
split_group (fact.Group clause call) = inr (clause, call, refl)
split_group (fact.Point clause call t w) = inl (λ p comps a last i. refl)
split_group (fact.Floor clause call t w) = inl (λ p comps a last i. refl)
split_group (fact.Image step clause q rows) = inl (λ p comps a last i. refl)
split_group (fact.Step step q how rows) = inl (λ p comps a last i. refl)
split_group (fact.WeakImage step) = inl (λ p comps a last i. refl)
split_group (fact.WeakStep step) = inl (λ p comps a last i. refl)
split_group (fact.Blown q support) = inl (λ p comps a last i. refl)

abbrev pub IsPointFact : ProveFact → Type 0
IsPointFact f = (clause : ℕ) × (call : ℕ) × (t : ℤ) × (w : List ℤ) × (f ≡ fact.Point clause call t w)

pub split_point : (f : ProveFact) → (((p : Listing) (pairs : List (ℕ × ℕ)) (last : ℕ × ℕ) → take_point p pairs last f ≡ Some None)) ⊎ IsPointFact f
unfolding take_point
split_point (fact.Ctiprove version) = inl (λ p pairs last. refl)
split_point (fact.Terminates q modes) = inl (λ p pairs last. refl)
split_point (fact.Kinds q kinds) = inl (λ p pairs last. refl)
split_point (fact.Fails q) = inl (λ p pairs last. refl)
split_point (fact.Size q index row) = inl (λ p pairs last. refl)
split_point (fact.By clause index scale list) = inl (λ p pairs last. refl)
split_point (fact.Grounds q index cells) = inl (λ p pairs last. refl)
split_point (fact.Level q list index coeffs offset) = inl (λ p pairs last. refl)
split_point (fact.Drops clause call list index scale numbers) = inl (λ p pairs last. refl)
split_point (fact.Floors clause call list scale numbers) = inl (λ p pairs last. refl)
split_point (fact.Pre q list index cells) = inl (λ p pairs last. refl)
split_point (fact.Refuted q groups) = inl (λ p pairs last. refl)
split_point (fact.Group clause call) = inl (λ p pairs last. refl)
split_point (fact.Point clause call t w) = inr (clause, call, t, w, refl)
split_point (fact.Floor clause call t w) = inl (λ p pairs last. refl)
split_point (fact.Image step clause q rows) = inl (λ p pairs last. refl)
split_point (fact.Step step q how rows) = inl (λ p pairs last. refl)
split_point (fact.WeakImage step) = inl (λ p pairs last. refl)
split_point (fact.WeakStep step) = inl (λ p pairs last. refl)
split_point (fact.Blown q support) = inl (λ p pairs last. refl)

abbrev pub IsFloorFact : ProveFact → Type 0
IsFloorFact f = (clause : ℕ) × (call : ℕ) × (t : ℤ) × (w : List ℤ) × (f ≡ fact.Floor clause call t w)

pub split_floor : (f : ProveFact) → (((p : Listing) (pair : ℕ × ℕ) → take_floor p pair f ≡ Some None)) ⊎ IsFloorFact f
unfolding take_floor
split_floor (fact.Ctiprove version) = inl (λ p pair. refl)
split_floor (fact.Terminates q modes) = inl (λ p pair. refl)
split_floor (fact.Kinds q kinds) = inl (λ p pair. refl)
split_floor (fact.Fails q) = inl (λ p pair. refl)
split_floor (fact.Size q index row) = inl (λ p pair. refl)
split_floor (fact.By clause index scale list) = inl (λ p pair. refl)
split_floor (fact.Grounds q index cells) = inl (λ p pair. refl)
split_floor (fact.Level q list index coeffs offset) = inl (λ p pair. refl)
split_floor (fact.Drops clause call list index scale numbers) = inl (λ p pair. refl)
split_floor (fact.Floors clause call list scale numbers) = inl (λ p pair. refl)
split_floor (fact.Pre q list index cells) = inl (λ p pair. refl)
split_floor (fact.Refuted q groups) = inl (λ p pair. refl)
split_floor (fact.Group clause call) = inl (λ p pair. refl)
split_floor (fact.Point clause call t w) = inl (λ p pair. refl)
split_floor (fact.Floor clause call t w) = inr (clause, call, t, w, refl)
split_floor (fact.Image step clause q rows) = inl (λ p pair. refl)
split_floor (fact.Step step q how rows) = inl (λ p pair. refl)
split_floor (fact.WeakImage step) = inl (λ p pair. refl)
split_floor (fact.WeakStep step) = inl (λ p pair. refl)
split_floor (fact.Blown q support) = inl (λ p pair. refl)

abbrev pub IsCountFact : ProveFact → Type 0
IsCountFact f = (q : PredText) × (groups : ℕ) × (f ≡ fact.Refuted q groups)

pub split_count : (f : ProveFact) → (((pred : PredText) → take_count pred f ≡ Some None)) ⊎ IsCountFact f
unfolding take_count
split_count (fact.Ctiprove version) = inl (λ pred. refl)
split_count (fact.Terminates q modes) = inl (λ pred. refl)
split_count (fact.Kinds q kinds) = inl (λ pred. refl)
split_count (fact.Fails q) = inl (λ pred. refl)
split_count (fact.Size q index row) = inl (λ pred. refl)
split_count (fact.By clause index scale list) = inl (λ pred. refl)
split_count (fact.Grounds q index cells) = inl (λ pred. refl)
split_count (fact.Level q list index coeffs offset) = inl (λ pred. refl)
split_count (fact.Drops clause call list index scale numbers) = inl (λ pred. refl)
split_count (fact.Floors clause call list scale numbers) = inl (λ pred. refl)
split_count (fact.Pre q list index cells) = inl (λ pred. refl)
split_count (fact.Refuted q groups) = inr (q, groups, refl)
split_count (fact.Group clause call) = inl (λ pred. refl)
split_count (fact.Point clause call t w) = inl (λ pred. refl)
split_count (fact.Floor clause call t w) = inl (λ pred. refl)
split_count (fact.Image step clause q rows) = inl (λ pred. refl)
split_count (fact.Step step q how rows) = inl (λ pred. refl)
split_count (fact.WeakImage step) = inl (λ pred. refl)
split_count (fact.WeakStep step) = inl (λ pred. refl)
split_count (fact.Blown q support) = inl (λ pred. refl)
