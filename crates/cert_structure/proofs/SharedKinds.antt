-- What facts say that certificates of mappings and of lists both have: of which kind it is, and which line says so.
use Rattle.std.proofs.Common.{◌≡◌, ◌≢◌, ℕ, ◌⊎◌, inl, inr, List, Some, None, refl, ap, sym, ◌∙◌}
use Rattle.std.specs.Prelude.{ℤ}
use Rattle.certificate.specs.declared.cell.CertCell.{CertCell}
use Rattle.certificate.specs.declared.pred_text.PredText.{PredText}
use Rattle.cert_structure.specs.SharedFacts.{Shared}
use Rattle.cert_structure.specs.SharedFacts as says
use Rattle.cert_structure.specs.Walk.{shared_modes, shared_row, shared_proof, shared_ground, shared_pre, shared_refuted}

-- what is said is of a kind, or its reader takes nothing
abbrev pub SaysModes : Shared → Type 0
SaysModes x = (q : PredText) × (modes : List (List ℕ)) × (x ≡ says.modes q modes)

pub split_modes : (x : Shared) → ((pred : PredText) (i : ℕ) → shared_modes pred i x ≡ Some None) ⊎ SaysModes x
unfolding shared_modes
split_modes (says.modes q modes) = inr (q, modes, refl)
split_modes (says.row q index row) = inl (λ pred i. refl)
split_modes (says.proof clause index scale list) = inl (λ pred i. refl)
split_modes (says.ground q index cells) = inl (λ pred i. refl)
split_modes (says.pre q mapping index cells) = inl (λ pred i. refl)
split_modes (says.refuted q points) = inl (λ pred i. refl)
split_modes says.other = inl (λ pred i. refl)

abbrev pub SaysRow : Shared → Type 0
SaysRow x = (q : PredText) × (index : ℕ) × (row : List ℤ) × (x ≡ says.row q index row)

pub split_row : (x : Shared) → ((pred : PredText) (i : ℕ) → shared_row pred i x ≡ Some None) ⊎ SaysRow x
unfolding shared_row
split_row (says.modes q modes) = inl (λ pred i. refl)
split_row (says.row q index row) = inr (q, index, row, refl)
split_row (says.proof clause index scale list) = inl (λ pred i. refl)
split_row (says.ground q index cells) = inl (λ pred i. refl)
split_row (says.pre q mapping index cells) = inl (λ pred i. refl)
split_row (says.refuted q points) = inl (λ pred i. refl)
split_row says.other = inl (λ pred i. refl)

abbrev pub SaysProof : Shared → Type 0
SaysProof x = (clause : ℕ) × (index : ℕ) × (scale : ℤ) × (list : List ℤ) × (x ≡ says.proof clause index scale list)

pub split_proof : (x : Shared) → ((k rows i : ℕ) → shared_proof k rows i x ≡ Some None) ⊎ SaysProof x
unfolding shared_proof
split_proof (says.modes q modes) = inl (λ k rows i. refl)
split_proof (says.row q index row) = inl (λ k rows i. refl)
split_proof (says.proof clause index scale list) = inr (clause, index, scale, list, refl)
split_proof (says.ground q index cells) = inl (λ k rows i. refl)
split_proof (says.pre q mapping index cells) = inl (λ k rows i. refl)
split_proof (says.refuted q points) = inl (λ k rows i. refl)
split_proof says.other = inl (λ k rows i. refl)

abbrev pub SaysGround : Shared → Type 0
SaysGround x = (q : PredText) × (index : ℕ) × (cells : List CertCell) × (x ≡ says.ground q index cells)

pub split_ground : (x : Shared) → ((pred : PredText) (i : ℕ) → shared_ground pred i x ≡ Some None) ⊎ SaysGround x
unfolding shared_ground
split_ground (says.modes q modes) = inl (λ pred i. refl)
split_ground (says.row q index row) = inl (λ pred i. refl)
split_ground (says.proof clause index scale list) = inl (λ pred i. refl)
split_ground (says.ground q index cells) = inr (q, index, cells, refl)
split_ground (says.pre q mapping index cells) = inl (λ pred i. refl)
split_ground (says.refuted q points) = inl (λ pred i. refl)
split_ground says.other = inl (λ pred i. refl)

abbrev pub SaysPre : Shared → Type 0
SaysPre x = (q : PredText) × (mapping : ℕ) × (index : ℕ) × (cells : List CertCell) × (x ≡ says.pre q mapping index cells)

pub split_pre : (x : Shared) → ((pred : PredText) (m i : ℕ) → shared_pre pred m i x ≡ Some None) ⊎ SaysPre x
unfolding shared_pre
split_pre (says.modes q modes) = inl (λ pred m i. refl)
split_pre (says.row q index row) = inl (λ pred m i. refl)
split_pre (says.proof clause index scale list) = inl (λ pred m i. refl)
split_pre (says.ground q index cells) = inl (λ pred m i. refl)
split_pre (says.pre q mapping index cells) = inr (q, mapping, index, cells, refl)
split_pre (says.refuted q points) = inl (λ pred m i. refl)
split_pre says.other = inl (λ pred m i. refl)

abbrev pub SaysRefuted : Shared → Type 0
SaysRefuted x = (q : PredText) × (points : ℕ) × (x ≡ says.refuted q points)

pub split_refuted : (x : Shared) → ((pred : PredText) (i : ℕ) → shared_refuted pred i x ≡ Some None) ⊎ SaysRefuted x
unfolding shared_refuted
split_refuted (says.modes q modes) = inl (λ pred i. refl)
split_refuted (says.row q index row) = inl (λ pred i. refl)
split_refuted (says.proof clause index scale list) = inl (λ pred i. refl)
split_refuted (says.ground q index cells) = inl (λ pred i. refl)
split_refuted (says.pre q mapping index cells) = inl (λ pred i. refl)
split_refuted (says.refuted q points) = inr (q, points, refl)
split_refuted says.other = inl (λ pred i. refl)

-- Facts of either kind of certificate: what each says, and the line that says so.
pub known : {F : Type 0} (look : F → Shared) (line : Shared → F) → ((f : F) → (look f ≡ says.other) ⊎ (f ≡ line (look f)))
    → (f : F) (x : Shared) → x ≢ says.other → look f ≡ x → f ≡ line x
known look line is_line f x h e = go (is_line f)
  where
    go : (look f ≡ says.other) ⊎ (f ≡ line (look f)) → f ≡ line x
    go (inl none) = absurd (h (sym e ∙ none))
    go (inr is) = is ∙ ap line e

pub again : {F : Type 0} (look : F → Shared) (line : Shared → F) → ((x : Shared) → (x ≡ says.other) ⊎ (look (line x) ≡ x))
    → (x : Shared) → x ≢ says.other → look (line x) ≡ x
again look line seen x h = go (seen x)
  where
    go : (x ≡ says.other) ⊎ (look (line x) ≡ x) → look (line x) ≡ x
    go (inl none) = absurd (h none)
    go (inr is) = is
