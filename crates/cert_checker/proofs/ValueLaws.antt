-- The first fact of a certificate that fails: a mode, or else what numbers do not show.
use Rattle.std.specs.Io.Iter.{u64_saturate}
use Rattle.std.proofs.Common.{◌≡◌, ◌≢◌, ℕ, suc, ◌+◌, ◌-◌, ◌<◌, ◌≤◌, ℤ, Bool, true, List, [], ◌∷◌, ◌++◌, length, Option, None, Some, IfSome, refl, sym, ap, subst, ◌∙◌, arith}
use Rattle.std.proofs.lemmas.List.{append_assoc}
use Rattle.std.specs.List.{AllPairs}
use Rattle.call_components.specs.Partition.{AreComponents, Partition}
use Rattle.certificate.specs.declared.fact.Fact.{Fact}
use Rattle.certificate.specs.declared.fact.Fact.TheVariants as fact
use Rattle.certificate.specs.declared.norm.CertNorm.{CertNorm}
use Rattle.cert_modes.specs.Failing.{FirstReason, IsFirstPred, KeepsRule, ModesFail, PredHolds, broken_rule, open_rows, refused_mode}
use Rattle.cert_modes.specs.Modes.{ModesHold, grounds_of}
use Rattle.cert_modes.specs.declared.fault.ModeFault.{ModeFault}
use Rattle.cert_modes.specs.declared.fault.ModeReason.{ModeReason}
use Rattle.cert_modes.specs.declared.fault.ModeReason.TheVariants as mode
use Rattle.cert_structure.specs.Order.{fall_facts, ground_facts, head_facts, is_note, level_facts, listed, mode_facts, pre_facts, pred_text, proof_facts, refuted_facts, size_facts}
use Rattle.cert_structure.specs.Shape.{HaveShape}
use Rattle.cert_structure.specs.Structure.{AreNamed, AreNotes, IsStructured}
use Rattle.cert_structure.specs.declared.parts.Parts.{Parts}
use Rattle.cti_terms.specs.Listing.{IsProgram, Listing}
use Rattle.cti_terms.specs.Tree.{Tree}
use Rattle.number_tests.proofs.ColumnLengths.{an_element}
use Rattle.termination_model.proofs.Lists.{by_places, from_places, place_below}
use Rattle.termination_model.specs.grounds.Grounds.{IsClosedUnder}
use Rattle.cert_checker.specs.Fault.{ClaimFails, FactFails, IsFault, IsFirstAt, failing_fact, reason_number}
use Rattle.cert_checker.specs.Finding.{Finds, NoneFails}
use Rattle.cert_checker.specs.ModeFaults.{fault_of, mode_reason}
use Rattle.cert_checker.specs.Sections.{AreLines, number_facts}
use Rattle.cert_checker.specs.declared.fault.Fault.{Fault}
use Rattle.cert_checker.specs.declared.lines.Lines.{Lines}
use Rattle.cert_checker.specs.declared.reason.Reason.{Reason}
use Rattle.cert_checker.specs.declared.verdict.Verdict.TheVariants.{No}
use Rattle.cert_checker.proofs.FindLaws.{before_ones, finds_fact, finds_here, finds_item, finds_next, finds_none, length_lines, none_append}
use Rattle.cert_checker.proofs.TextLaws.{same_text}

-- why the modes of one predicate fail
module _ (truth : (ℕ → Bool) → Tree → Bool) (p : Listing) (comps : Partition) (parts : Parts) (q : ℕ) where
  unfailing : PredHolds truth p comps parts q → (m : ModeReason) → ¬ ModesFail truth p comps parts q m
  unfailing h mode.Ground never = never h.closed
  unfailing h mode.Precondition never = never h.keeps
  unfailing h mode.Mode never = never h.modes

  first_fails : (m : ModeReason) → FirstReason truth p comps parts q m → ModesFail truth p comps parts q m
  first_fails mode.Ground (open_rows never) = never
  first_fails mode.Precondition (broken_rule c never) = never
  first_fails mode.Mode (refused_mode c k never) = never

  first_smallest : (m other : ModeReason) → FirstReason truth p comps parts q m → ModesFail truth p comps parts q other → reason_number (mode_reason m) ≤ reason_number (mode_reason other)
  first_smallest mode.Ground mode.Ground first fails = omega arith
  first_smallest mode.Ground mode.Precondition first fails = omega arith
  first_smallest mode.Ground mode.Mode first fails = omega arith
  first_smallest mode.Precondition mode.Ground (broken_rule c never) fails = absurd (fails c)
  first_smallest mode.Precondition mode.Precondition first fails = omega arith
  first_smallest mode.Precondition mode.Mode first fails = omega arith
  first_smallest mode.Mode mode.Ground (refused_mode c k never) fails = absurd (fails c)
  first_smallest mode.Mode mode.Precondition (refused_mode c k never) fails = absurd (fails k)
  first_smallest mode.Mode mode.Mode first fails = omega arith

  each_holds : ModesHold truth p comps parts → PredHolds truth p comps parts q
  each_holds hold = record {
    closed = record {
      clauses = λ k c e same. by_places (IsClosedUnder truth (grounds_of p parts)) p.clauses hold.closed.clauses k c e;
      builtin = λ b is. hold.closed.builtins q b is;
    };
    keeps = record {
      covered = λ m row. hold.covered m q row;
      rule = λ m k c e same. by_places (KeepsRule truth p comps parts m) p.clauses (hold.rule m) k c e;
    };
    modes = hold.modes q;
  }

module _ (truth : (ℕ → Bool) → Tree → Bool) (expression : ℕ → Tree → List ℤ) (p : Listing) (names : List (List ℕ)) (comps : Partition) (parts : Parts)
    (prog : IsProgram p) (named : AreNamed names p.preds) (distinct : AllPairs (λ a b. a ≢ b) names) (shape : HaveShape p comps parts) where
  abbrev Whole : Fact → Reason → Type 0
  Whole = FactFails p names truth expression comps parts

  abbrev mode_fact : ℕ → List (List ℕ) → Fact
  mode_fact q ms = fact.Terminates (pred_text p names q) ms

  pred_none : (q : ℕ) → q < length p.preds → PredHolds truth p comps parts q → (ms : List (List ℕ)) → NoneFails Whole (mode_fact q ms ∷ [])
  pred_none q lt holds ms = (
    λ why fault.
        let same : fault.q ≡ q = same_text p names prog named distinct q fault.q lt fault.named.0 fault.named.1 in
        unfailing truth p comps parts q holds fault.mode (subst (λ (k : ℕ). ModesFail truth p comps parts k fault.mode) same fault.fails),
    tt,
  )

  -- modes that hold have no fault
  pub modes_hold : ModesHold truth p comps parts → NoneFails Whole (mode_facts p names parts.modes)
  modes_hold hold =
      finds_none Whole (λ q ms. mode_fact q ms ∷ []) (λ ms. 1) (λ q ms. refl) parts.modes
      (λ q ms e. pred_none q (let count = shape.modes.count in omega (arith, count, place_below parts.modes q ms e)) (each_holds truth p comps parts q hold) ms)

  -- the first predicate whose modes fail
  modes_fail : (start : ℕ) (f : ModeFault) → IsFirstPred truth p comps parts start f → Finds Whole start (mode_facts p names parts.modes) (Some (fault_of f))
  modes_fail start f is =
      let count = shape.modes.count in
      let within = is.within in
      let (ms, at) = an_element parts.modes is.q (omega (arith, count, within)) in
      let line = is.line in
      let ones = before_ones parts.modes is.q ms at in
      finds_item Whole (λ q xs. mode_fact q xs ∷ []) (λ xs. 1) (λ q xs. refl) start (start + is.q) parts.modes is.q ms (fault_of f) at
      (λ m. omega (arith, ones))
      (λ j lt xs e. pred_none j (omega (arith, lt, within)) (is.earlier j lt) xs)
      (finds_fact Whole (start + is.q) (mode_fact is.q ms) (fault_of f) line
      (record { q = is.q; named = (within, refl); mode = f.reason; fails = first_fails truth p comps parts is.q f.reason is.reason; why_is = refl })
      (λ other fault.
      let same : fault.q ≡ is.q = same_text p names prog named distinct is.q fault.q within fault.named.0 fault.named.1 in
      let number = ap reason_number fault.why_is in
      let least = first_smallest truth p comps parts is.q f.reason fault.mode is.reason (subst (λ (k : ℕ). ModesFail truth p comps parts k fault.mode) same fault.fails) in
      omega (arith, number, least)))

  note_none : (x : Fact) → is_note x ≡ true → (why : Reason) → ¬ Whole x why
  note_none (fact.Image step clause pred rows) note why fails = fails
  note_none (fact.Step step pred how rows) note why fails = fails
  note_none (fact.WeakImage step) note why fails = fails
  note_none (fact.WeakStep step) note why fails = fails
  note_none (fact.Blown pred support) note why fails = fails
  note_none (fact.Large pred positions) note why fails = fails
  note_none (fact.Cti v) note why fails = fails
  note_none (fact.Norm n) note why fails = fails
  note_none (fact.Terminates text ms) note why fails = cc
  note_none (fact.Size text i row) note why fails = cc
  note_none (fact.By k i scale ms) note why fails = cc
  note_none (fact.Grounds text i cube) note why fails = fails
  note_none (fact.Measure text m coeffs offset) note why fails = cc
  note_none (fact.Falls k j m scale ms) note why fails = cc
  note_none (fact.Pre text m i cube) note why fails = fails
  note_none (fact.Refuted text n) note why fails = cc
  note_none (fact.Point k j t w) note why fails = cc
  note_none (fact.At k j t w) note why fails = cc

  module _ (notes : List Fact) (are_notes : AreNotes notes) where
    pub notes_hold : NoneFails Whole notes
    notes_hold = from_places (λ x. (why : Reason) → ¬ Whole x why) notes (λ i x e. note_none x (by_places (λ x. is_note x ≡ true) notes are_notes i x e))

    abbrev tail : List Fact
    tail =
        size_facts p names parts.rows
        ++ (proof_facts parts.row_proofs
        ++ (ground_facts p names parts.grounds ++ (level_facts p names parts.levels ++ (fall_facts parts.falls ++ (pre_facts p names parts.preconditions ++ (refuted_facts p names parts.refutations ++ notes))))))

    regrouped : number_facts p names parts ++ notes ≡ tail
    regrouped =
        let s = size_facts p names parts.rows in
        let a = proof_facts parts.row_proofs in
        let b = ground_facts p names parts.grounds in
        let c = level_facts p names parts.levels in
        let d = fall_facts parts.falls in
        let e = pre_facts p names parts.preconditions in
        let f = refuted_facts p names parts.refutations in
        append_assoc s (a ++ (b ++ (c ++ (d ++ (e ++ f))))) notes
        ∙ ap (λ xs. s ++ xs) (append_assoc a (b ++ (c ++ (d ++ (e ++ f)))) notes
        ∙ ap (λ xs. a ++ xs) (append_assoc b (c ++ (d ++ (e ++ f))) notes
        ∙ ap (λ xs. b ++ xs) (append_assoc c (d ++ (e ++ f)) notes ∙ ap (λ xs. c ++ xs) (append_assoc d (e ++ f) notes ∙ ap (λ xs. d ++ xs) (append_assoc e f notes)))))

    with_notes : (line : ℕ) (o : Option Fault) → Finds Whole line (number_facts p names parts) o → Finds Whole line tail o
    with_notes line None found = subst (λ xs. Finds Whole line xs None) regrouped (none_append Whole (number_facts p names parts) notes found notes_hold)
    with_notes line (Some f) found = subst (λ xs. Finds Whole line xs (Some f)) regrouped (finds_here Whole line (number_facts p names parts) notes f found)

    -- the first facts, those of the version and of the norm
    head_holds : (o : Option CertNorm) → NoneFails Whole (head_facts o)
    head_holds None = (λ why fails. fails, tt)
    head_holds (Some n) = (λ why fails. fails, (λ why fails. fails, tt))

    head_counted : (o : Option CertNorm) → suc (length (head_facts o)) ≡ u64_saturate (1 + length (head_facts o))
    head_counted None = omega arith
    head_counted (Some n) = omega arith

    abbrev start : ℕ
    start = suc (length (head_facts parts.norm))

    pub mode_first : (f : ModeFault) → IsFirstPred truth p comps parts start f → Finds Whole 1 (listed p names parts notes) (Some (fault_of f))
    mode_first f is =
        finds_next Whole 1 start (head_facts parts.norm) (mode_facts p names parts.modes ++ tail) (Some (fault_of f)) (head_counted parts.norm) (head_holds parts.norm)
        (finds_here Whole start (mode_facts p names parts.modes) tail (fault_of f) (modes_fail start f is))

    pub number_first : (lines : Lines) → AreLines parts lines → ModesHold truth p comps parts → (o : Option Fault) → Finds Whole lines.sizes (number_facts p names parts) o → Finds Whole 1 (listed p names parts notes) o
    number_first lines are hold o found =
        let first = are.modes in
        let sizes = are.sizes in
        let modes = length_lines mode_fact 0 parts.modes in
        finds_next Whole 1 start (head_facts parts.norm) (mode_facts p names parts.modes ++ tail) o (head_counted parts.norm) (head_holds parts.norm)
        (finds_next Whole start lines.sizes (mode_facts p names parts.modes) tail o (omega (arith, first, sizes, modes)) (modes_hold hold) (with_notes lines.sizes o found))

-- the fault that is found in the facts is the first one
pub fault_found : (p : Listing) (names : List (List ℕ)) (comps : Partition) (parts : Parts) (facts : List Fact) → AreComponents p comps → (s : IsStructured p names comps parts facts) → u64_saturate (length facts) ≡ length facts
    → (o : Option Fault) → Finds (ClaimFails p names comps parts) 1 (listed p names parts s.notes) o → IfSome o (λ f. IsFault p names facts f.line f.reason)
fault_found p names comps parts facts are s counted None found = tt
fault_found p names comps parts facts are s counted (Some f) (n, line, is) =
    let whole = listed p names parts s.notes in
    let below = place_below whole n is.fact is.there in
    let long : length facts ≡ length whole = ap length s.is in
    let at : n ≡ f.line - 1 = omega (arith, counted, below, long, line) in
    let fails = ClaimFails p names comps parts in
    failing_fact f.reason (record {
      comps = comps;
      components = are;
      parts = parts;
      structured = s;
      counted = omega (arith, line);
      first = subst (λ (k : ℕ). IsFirstAt fails facts k f.reason) at (subst (λ (xs : List Fact). IsFirstAt fails xs n f.reason) (sym s.is) is);
    })

-- a No has one line and one reason
pub same_no : (p : Listing) (names : List (List ℕ)) (facts : List Fact) (line other : ℕ) (why because : Reason) → No line why ≡ No other because → IsFault p names facts line why → IsFault p names facts other because
same_no p names facts line other why because same is =
    let lines : line ≡ other = cc in
    let reasons : why ≡ because = cc in
    subst (λ (r : Reason). IsFault p names facts other r) reasons (subst (λ (n : ℕ). IsFault p names facts n why) lines is)
