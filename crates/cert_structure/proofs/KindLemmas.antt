-- For each kind of reader: a fact is of its kind, or it takes nothing.
use Rattle.std.proofs.Common.{◌≡◌, ℕ, ◌⊎◌, inl, inr, List, ◌∷◌, Some, None, refl}
use Rattle.std.specs.Prelude.{ℤ}
use Rattle.call_components.specs.Partition.{Partition}
use Rattle.certificate.specs.declared.cell.CertCell.{CertCell}
use Rattle.certificate.specs.declared.norm.CertNorm.{CertNorm}
use Rattle.certificate.specs.declared.pred_text.PredText.{PredText}
use Rattle.certificate.specs.declared.fact.Fact.{Fact}
use Rattle.certificate.specs.declared.fact.Fact.TheVariants as fact
use Rattle.cti_terms.specs.Listing.{Listing}
use Rattle.fact_reading.specs.declared.stop.StructureReason.TheVariants as reason
use Rattle.cert_structure.specs.Walk.{read_head, take_norm, take_modes, take_row, take_proof, take_ground, take_level, take_fall, take_pre, take_refuted, take_point, take_second}
use Rattle.fact_reading.specs.Walk.{wrong_at}
use Rattle.cert_structure.specs.SharedFacts.{Shared, shared}
use Rattle.cert_structure.specs.SharedFacts as says
use Rattle.cert_structure.proofs.SharedKinds as kinds

-- the place of a fact's kind in the order of the format
abbrev pub kind : Fact → ℕ
kind (fact.Cti version) = 0
kind (fact.Norm norm) = 0
kind (fact.Terminates q modes) = 1
kind (fact.Size q index row) = 2
kind (fact.By clause index scale list) = 3
kind (fact.Grounds q index cells) = 4
kind (fact.Measure q mapping coeffs offset) = 5
kind (fact.Falls clause call mapping scale list) = 6
kind (fact.Pre q mapping index cells) = 7
kind (fact.Refuted q points) = 8
kind (fact.Point clause call t w) = 8
kind (fact.At clause call t w) = 8
kind (fact.Image step clause q rows) = 9
kind (fact.Step step q how rows) = 9
kind (fact.WeakImage step) = 9
kind (fact.WeakStep step) = 9
kind (fact.Blown q support) = 9
kind (fact.Large q positions) = 9

-- the fact that says what certificates of lists have too; where nothing is said, any fact
abbrev pub fact_line : Shared → Fact
fact_line (says.modes q modes) = fact.Terminates q modes
fact_line (says.row q index row) = fact.Size q index row
fact_line (says.proof clause index scale list) = fact.By clause index scale list
fact_line (says.ground q index cells) = fact.Grounds q index cells
fact_line (says.pre q mapping index cells) = fact.Pre q mapping index cells
fact_line (says.refuted q points) = fact.Refuted q points
fact_line says.other = fact.WeakStep 0

pub is_line : (f : Fact) → (shared f ≡ says.other) ⊎ (f ≡ fact_line (shared f))
is_line (fact.Cti version) = inl refl
is_line (fact.Norm norm) = inl refl
is_line (fact.Terminates q modes) = inr refl
is_line (fact.Size q index row) = inr refl
is_line (fact.By clause index scale list) = inr refl
is_line (fact.Grounds q index cells) = inr refl
is_line (fact.Measure q mapping coeffs offset) = inl refl
is_line (fact.Falls clause call mapping scale list) = inl refl
is_line (fact.Pre q mapping index cells) = inr refl
is_line (fact.Refuted q points) = inr refl
is_line (fact.Point clause call t w) = inl refl
is_line (fact.At clause call t w) = inl refl
is_line (fact.Image step clause q rows) = inl refl
is_line (fact.Step step q how rows) = inl refl
is_line (fact.WeakImage step) = inl refl
is_line (fact.WeakStep step) = inl refl
is_line (fact.Blown q support) = inl refl
is_line (fact.Large q positions) = inl refl

pub seen : (x : Shared) → (x ≡ says.other) ⊎ (shared (fact_line x) ≡ x)
seen (says.modes q modes) = inr refl
seen (says.row q index row) = inr refl
seen (says.proof clause index scale list) = inr refl
seen (says.ground q index cells) = inr refl
seen (says.pre q mapping index cells) = inr refl
seen (says.refuted q points) = inr refl
seen says.other = inl refl

-- the first fact is a version
abbrev pub IsVersion : Fact → Type 0
IsVersion f = (version : ℤ) × (f ≡ fact.Cti version)

pub split_version : (f : Fact) → ((s : List Fact) → read_head (f ∷ s) ≡ wrong_at (f ∷ s) reason.Extra) ⊎ IsVersion f
unfolding read_head
split_version (fact.Cti version) = inr (version, refl)
split_version (fact.Norm norm) = inl (λ s. refl)
split_version (fact.Terminates q modes) = inl (λ s. refl)
split_version (fact.Size q index row) = inl (λ s. refl)
split_version (fact.By clause index scale list) = inl (λ s. refl)
split_version (fact.Grounds q index cells) = inl (λ s. refl)
split_version (fact.Measure q mapping coeffs offset) = inl (λ s. refl)
split_version (fact.Falls clause call mapping scale list) = inl (λ s. refl)
split_version (fact.Pre q mapping index cells) = inl (λ s. refl)
split_version (fact.Refuted q points) = inl (λ s. refl)
split_version (fact.Point clause call t w) = inl (λ s. refl)
split_version (fact.At clause call t w) = inl (λ s. refl)
split_version (fact.Image step clause q rows) = inl (λ s. refl)
split_version (fact.Step step q how rows) = inl (λ s. refl)
split_version (fact.WeakImage step) = inl (λ s. refl)
split_version (fact.WeakStep step) = inl (λ s. refl)
split_version (fact.Blown q support) = inl (λ s. refl)
split_version (fact.Large q positions) = inl (λ s. refl)

abbrev pub IsNorm : Fact → Type 0
IsNorm f = (norm : CertNorm) × (f ≡ fact.Norm norm)

pub split_norm : (f : Fact) → ((i : ℕ) → take_norm i f ≡ Some None) ⊎ IsNorm f
unfolding take_norm
split_norm (fact.Cti version) = inl (λ i. refl)
split_norm (fact.Norm norm) = inr (norm, refl)
split_norm (fact.Terminates q modes) = inl (λ i. refl)
split_norm (fact.Size q index row) = inl (λ i. refl)
split_norm (fact.By clause index scale list) = inl (λ i. refl)
split_norm (fact.Grounds q index cells) = inl (λ i. refl)
split_norm (fact.Measure q mapping coeffs offset) = inl (λ i. refl)
split_norm (fact.Falls clause call mapping scale list) = inl (λ i. refl)
split_norm (fact.Pre q mapping index cells) = inl (λ i. refl)
split_norm (fact.Refuted q points) = inl (λ i. refl)
split_norm (fact.Point clause call t w) = inl (λ i. refl)
split_norm (fact.At clause call t w) = inl (λ i. refl)
split_norm (fact.Image step clause q rows) = inl (λ i. refl)
split_norm (fact.Step step q how rows) = inl (λ i. refl)
split_norm (fact.WeakImage step) = inl (λ i. refl)
split_norm (fact.WeakStep step) = inl (λ i. refl)
split_norm (fact.Blown q support) = inl (λ i. refl)
split_norm (fact.Large q positions) = inl (λ i. refl)

abbrev pub IsTerminates : Fact → Type 0
IsTerminates f = (q : PredText) × (modes : List (List ℕ)) × (f ≡ fact.Terminates q modes)

pub split_modes : (f : Fact) → ((pred : PredText) (i : ℕ) → take_modes pred i f ≡ Some None) ⊎ IsTerminates f
split_modes f = go (kinds.split_modes (shared f))
  where
    go : ((pred : PredText) (i : ℕ) → take_modes pred i f ≡ Some None) ⊎ kinds.SaysModes (shared f) → ((pred : PredText) (i : ℕ) → take_modes pred i f ≡ Some None) ⊎ IsTerminates f
    go (inl none) = inl none
    go (inr (q, modes, e)) = inr (q, modes, kinds.known shared fact_line is_line f (says.modes q modes) (λ z. cc z) e)

abbrev pub IsSize : Fact → Type 0
IsSize f = (q : PredText) × (index : ℕ) × (row : List ℤ) × (f ≡ fact.Size q index row)

pub split_row : (f : Fact) → ((pred : PredText) (i : ℕ) → take_row pred i f ≡ Some None) ⊎ IsSize f
split_row f = go (kinds.split_row (shared f))
  where
    go : ((pred : PredText) (i : ℕ) → take_row pred i f ≡ Some None) ⊎ kinds.SaysRow (shared f) → ((pred : PredText) (i : ℕ) → take_row pred i f ≡ Some None) ⊎ IsSize f
    go (inl none) = inl none
    go (inr (q, index, row, e)) = inr (q, index, row, kinds.known shared fact_line is_line f (says.row q index row) (λ z. cc z) e)

abbrev pub IsBy : Fact → Type 0
IsBy f = (clause : ℕ) × (index : ℕ) × (scale : ℤ) × (list : List ℤ) × (f ≡ fact.By clause index scale list)

pub split_proof : (f : Fact) → ((k rows i : ℕ) → take_proof k rows i f ≡ Some None) ⊎ IsBy f
split_proof f = go (kinds.split_proof (shared f))
  where
    go : ((k rows i : ℕ) → take_proof k rows i f ≡ Some None) ⊎ kinds.SaysProof (shared f) → ((k rows i : ℕ) → take_proof k rows i f ≡ Some None) ⊎ IsBy f
    go (inl none) = inl none
    go (inr (clause, index, scale, list, e)) = inr (clause, index, scale, list, kinds.known shared fact_line is_line f (says.proof clause index scale list) (λ z. cc z) e)

abbrev pub IsGrounds : Fact → Type 0
IsGrounds f = (q : PredText) × (index : ℕ) × (cells : List CertCell) × (f ≡ fact.Grounds q index cells)

pub split_ground : (f : Fact) → ((pred : PredText) (i : ℕ) → take_ground pred i f ≡ Some None) ⊎ IsGrounds f
split_ground f = go (kinds.split_ground (shared f))
  where
    go : ((pred : PredText) (i : ℕ) → take_ground pred i f ≡ Some None) ⊎ kinds.SaysGround (shared f) → ((pred : PredText) (i : ℕ) → take_ground pred i f ≡ Some None) ⊎ IsGrounds f
    go (inl none) = inl none
    go (inr (q, index, cells, e)) = inr (q, index, cells, kinds.known shared fact_line is_line f (says.ground q index cells) (λ z. cc z) e)

abbrev pub IsMeasure : Fact → Type 0
IsMeasure f = (q : PredText) × (mapping : ℕ) × (coeffs : List ℤ) × (offset : ℤ) × (f ≡ fact.Measure q mapping coeffs offset)

pub split_level : (f : Fact) → ((pred : PredText) (i : ℕ) → take_level pred i f ≡ Some None) ⊎ IsMeasure f
unfolding take_level
split_level (fact.Cti version) = inl (λ pred i. refl)
split_level (fact.Norm norm) = inl (λ pred i. refl)
split_level (fact.Terminates q modes) = inl (λ pred i. refl)
split_level (fact.Size q index row) = inl (λ pred i. refl)
split_level (fact.By clause index scale list) = inl (λ pred i. refl)
split_level (fact.Grounds q index cells) = inl (λ pred i. refl)
split_level (fact.Measure q mapping coeffs offset) = inr (q, mapping, coeffs, offset, refl)
split_level (fact.Falls clause call mapping scale list) = inl (λ pred i. refl)
split_level (fact.Pre q mapping index cells) = inl (λ pred i. refl)
split_level (fact.Refuted q points) = inl (λ pred i. refl)
split_level (fact.Point clause call t w) = inl (λ pred i. refl)
split_level (fact.At clause call t w) = inl (λ pred i. refl)
split_level (fact.Image step clause q rows) = inl (λ pred i. refl)
split_level (fact.Step step q how rows) = inl (λ pred i. refl)
split_level (fact.WeakImage step) = inl (λ pred i. refl)
split_level (fact.WeakStep step) = inl (λ pred i. refl)
split_level (fact.Blown q support) = inl (λ pred i. refl)
split_level (fact.Large q positions) = inl (λ pred i. refl)

abbrev pub IsFalls : Fact → Type 0
IsFalls f = (clause : ℕ) × (call : ℕ) × (mapping : ℕ) × (scale : ℤ) × (list : List ℤ) × (f ≡ fact.Falls clause call mapping scale list)

pub split_fall : (f : Fact) → ((k j rows m : ℕ) → take_fall k j rows m f ≡ Some None) ⊎ IsFalls f
unfolding take_fall
split_fall (fact.Cti version) = inl (λ k j rows m. refl)
split_fall (fact.Norm norm) = inl (λ k j rows m. refl)
split_fall (fact.Terminates q modes) = inl (λ k j rows m. refl)
split_fall (fact.Size q index row) = inl (λ k j rows m. refl)
split_fall (fact.By clause index scale list) = inl (λ k j rows m. refl)
split_fall (fact.Grounds q index cells) = inl (λ k j rows m. refl)
split_fall (fact.Measure q mapping coeffs offset) = inl (λ k j rows m. refl)
split_fall (fact.Falls clause call mapping scale list) = inr (clause, call, mapping, scale, list, refl)
split_fall (fact.Pre q mapping index cells) = inl (λ k j rows m. refl)
split_fall (fact.Refuted q points) = inl (λ k j rows m. refl)
split_fall (fact.Point clause call t w) = inl (λ k j rows m. refl)
split_fall (fact.At clause call t w) = inl (λ k j rows m. refl)
split_fall (fact.Image step clause q rows) = inl (λ k j rows m. refl)
split_fall (fact.Step step q how rows) = inl (λ k j rows m. refl)
split_fall (fact.WeakImage step) = inl (λ k j rows m. refl)
split_fall (fact.WeakStep step) = inl (λ k j rows m. refl)
split_fall (fact.Blown q support) = inl (λ k j rows m. refl)
split_fall (fact.Large q positions) = inl (λ k j rows m. refl)

abbrev pub IsPre : Fact → Type 0
IsPre f = (q : PredText) × (mapping : ℕ) × (index : ℕ) × (cells : List CertCell) × (f ≡ fact.Pre q mapping index cells)

pub split_pre : (f : Fact) → ((pred : PredText) (m i : ℕ) → take_pre pred m i f ≡ Some None) ⊎ IsPre f
split_pre f = go (kinds.split_pre (shared f))
  where
    go : ((pred : PredText) (m i : ℕ) → take_pre pred m i f ≡ Some None) ⊎ kinds.SaysPre (shared f) → ((pred : PredText) (m i : ℕ) → take_pre pred m i f ≡ Some None) ⊎ IsPre f
    go (inl none) = inl none
    go (inr (q, mapping, index, cells, e)) = inr (q, mapping, index, cells, kinds.known shared fact_line is_line f (says.pre q mapping index cells) (λ z. cc z) e)

abbrev pub IsRefuted : Fact → Type 0
IsRefuted f = (q : PredText) × (points : ℕ) × (f ≡ fact.Refuted q points)

pub split_refuted : (f : Fact) → ((pred : PredText) (i : ℕ) → take_refuted pred i f ≡ Some None) ⊎ IsRefuted f
split_refuted f = go (kinds.split_refuted (shared f))
  where
    go : ((pred : PredText) (i : ℕ) → take_refuted pred i f ≡ Some None) ⊎ kinds.SaysRefuted (shared f) → ((pred : PredText) (i : ℕ) → take_refuted pred i f ≡ Some None) ⊎ IsRefuted f
    go (inl none) = inl none
    go (inr (q, points, e)) = inr (q, points, kinds.known shared fact_line is_line f (says.refuted q points) (λ z. cc z) e)

abbrev pub IsPoint : Fact → Type 0
IsPoint f = (clause : ℕ) × (call : ℕ) × (t : ℤ) × (w : List ℤ) × (f ≡ fact.Point clause call t w)

pub split_point : (f : Fact) → ((p : Listing) (comps : Partition) (a : ℕ) (last : ℕ × ℕ) (i : ℕ) → take_point p comps a last i f ≡ Some None) ⊎ IsPoint f
unfolding take_point
split_point (fact.Cti version) = inl (λ p comps a last i. refl)
split_point (fact.Norm norm) = inl (λ p comps a last i. refl)
split_point (fact.Terminates q modes) = inl (λ p comps a last i. refl)
split_point (fact.Size q index row) = inl (λ p comps a last i. refl)
split_point (fact.By clause index scale list) = inl (λ p comps a last i. refl)
split_point (fact.Grounds q index cells) = inl (λ p comps a last i. refl)
split_point (fact.Measure q mapping coeffs offset) = inl (λ p comps a last i. refl)
split_point (fact.Falls clause call mapping scale list) = inl (λ p comps a last i. refl)
split_point (fact.Pre q mapping index cells) = inl (λ p comps a last i. refl)
split_point (fact.Refuted q points) = inl (λ p comps a last i. refl)
split_point (fact.Point clause call t w) = inr (clause, call, t, w, refl)
split_point (fact.At clause call t w) = inl (λ p comps a last i. refl)
split_point (fact.Image step clause q rows) = inl (λ p comps a last i. refl)
split_point (fact.Step step q how rows) = inl (λ p comps a last i. refl)
split_point (fact.WeakImage step) = inl (λ p comps a last i. refl)
split_point (fact.WeakStep step) = inl (λ p comps a last i. refl)
split_point (fact.Blown q support) = inl (λ p comps a last i. refl)
split_point (fact.Large q positions) = inl (λ p comps a last i. refl)

abbrev pub IsAt : Fact → Type 0
IsAt f = (clause : ℕ) × (call : ℕ) × (t : ℤ) × (w : List ℤ) × (f ≡ fact.At clause call t w)

pub split_second : (f : Fact) → ((pair : ℕ × ℕ) (vars i : ℕ) → take_second pair vars i f ≡ Some None) ⊎ IsAt f
unfolding take_second
split_second (fact.Cti version) = inl (λ pair vars i. refl)
split_second (fact.Norm norm) = inl (λ pair vars i. refl)
split_second (fact.Terminates q modes) = inl (λ pair vars i. refl)
split_second (fact.Size q index row) = inl (λ pair vars i. refl)
split_second (fact.By clause index scale list) = inl (λ pair vars i. refl)
split_second (fact.Grounds q index cells) = inl (λ pair vars i. refl)
split_second (fact.Measure q mapping coeffs offset) = inl (λ pair vars i. refl)
split_second (fact.Falls clause call mapping scale list) = inl (λ pair vars i. refl)
split_second (fact.Pre q mapping index cells) = inl (λ pair vars i. refl)
split_second (fact.Refuted q points) = inl (λ pair vars i. refl)
split_second (fact.Point clause call t w) = inl (λ pair vars i. refl)
split_second (fact.At clause call t w) = inr (clause, call, t, w, refl)
split_second (fact.Image step clause q rows) = inl (λ pair vars i. refl)
split_second (fact.Step step q how rows) = inl (λ pair vars i. refl)
split_second (fact.WeakImage step) = inl (λ pair vars i. refl)
split_second (fact.WeakStep step) = inl (λ pair vars i. refl)
split_second (fact.Blown q support) = inl (λ pair vars i. refl)
split_second (fact.Large q positions) = inl (λ pair vars i. refl)
