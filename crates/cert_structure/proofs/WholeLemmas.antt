-- Reading a whole certificate: what is read is its parts, and its parts are read.
use Rattle.std.proofs.Common.{◌≡◌, ◌≢◌, ℕ, ◌<◌, ◌⊎◌, inl, inr, Bool, true, false, if◌then◌else◌, List, [], ◌∷◌, ◌++◌, length, Option, Some, None, Result, Ok, Err, ◌-◌, nat_lt, refl, ap, sym, ◌∙◌, subst, arith, le-ltb, ltb-false}
use Rattle.std.proofs.lemmas.Bool.Decides.{Decides-int_eq}
use Rattle.std.specs.Prelude.{ℤ, pos}
use Rattle.std.specs.Ordering.{int_eq}
use Rattle.std.specs.List.{prefix_len}
use Rattle.call_components.specs.Partition.{Partition, AreComponents}
use Rattle.certificate.specs.declared.fact.Fact.{Fact}
use Rattle.certificate.specs.declared.fact.Fact.TheVariants as fact
use Rattle.certificate.specs.declared.norm.CertNorm.{CertNorm}
use Rattle.cti_terms.specs.Listing.{Listing}
use Rattle.fact_reading.specs.declared.stop.StructureReason.TheVariants as reason
use Rattle.cert_structure.specs.declared.parts.Parts.{Parts}
use Rattle.cert_structure.specs.Order.{pred_text, head_facts, mode_facts, size_facts, proof_facts, ground_facts, level_facts, fall_facts, pre_facts, refuted_facts, listed, is_note}
use Rattle.cert_structure.specs.Shape.{HaveShape}
use Rattle.cert_structure.specs.Structure.{IsStructured, AreNotes}
use Rattle.cert_structure.specs.Walk.{take_norm, named_norm, by_version, with_notes, read_whole, read_head, read_sections, read_modes, read_rows, read_proofs, read_grounds, read_levels, read_falls, read_pre, read_refutation, read_parts}
use Rattle.fact_reading.specs.Walk.{◌>>=◌, Wrong, wrong_at, item_of, result_map, read_each}
use Rattle.cert_structure.proofs.LoopLemmas.{are_notes, all_notes}
use Rattle.cert_structure.proofs.KindLemmas.{kind, IsVersion, split_version, IsNorm, split_norm}
use Rattle.fact_reading.proofs.SectionLemmas.{same_ok, err_ok, bound, all_both, all_weaker}
use Rattle.cert_structure.proofs.LevelLemmas.{NoLevel, levels_sound, levels_back}
use Rattle.cert_structure.proofs.StructureLemmas.{AreLater, proofs_later, grounds_later, levels_later, falls_later, pre_later, refuted_later, notes_later, no_level, modes_section, modes_listed, rows_section, rows_listed, proofs_section, proofs_listed, grounds_section, grounds_listed, falls_section, falls_listed, pre_section, pre_listed, refuted_section, refuted_listed}
use Rattle.cert_structure.proofs.ComponentLemmas.{first_le}
use Rattle.cert_structure.proofs.PartsLemmas.{all_read}

norm_sound : (s t : List Fact) (norm : Option CertNorm) → named_norm s ≡ Ok (norm, t) → fact.Cti (pos 2) ∷ s ≡ head_facts norm ++ t
unfolding take_norm
norm_sound [] t norm e = err_ok _ (norm, t) e
norm_sound (f ∷ s) t norm e = go (split_norm f)
  where
    go : ((i : ℕ) → take_norm i f ≡ Some None) ⊎ IsNorm f → fact.Cti (pos 2) ∷ f ∷ s ≡ head_facts norm ++ t
    go (inl none) = err_ok _ (norm, t) (sym (ap (λ z. result_map (λ x. (Some x.0, x.1)) (item_of f s z)) (none 0)) ∙ e)
    go (inr (own, is)) =
        let both : (Some own, s) ≡ (norm, t) = same_ok _ _ (ap (λ z. named_norm (z ∷ s)) (sym is) ∙ e) in
        let first : Some own ≡ norm = ap (λ z. z.0) both in
        let rest : s ≡ t = ap (λ z. z.1) both in
        rw (is, ← first, ← rest) refl

-- what is read of a head is its norm, and the norm of a head is read
pub head_sound : (s t : List Fact) (norm : Option CertNorm) → read_head s ≡ Ok (norm, t) → s ≡ head_facts norm ++ t
unfolding read_head
head_sound [] t norm e = err_ok _ (norm, t) e
head_sound (f ∷ s) t norm e = go (split_version f)
  where
    numbered : (v : ℤ) (one two : Bool) → int_eq v (pos 1) ≡ one → int_eq v (pos 2) ≡ two → by_version v one two s ≡ Ok (norm, t) → fact.Cti v ∷ s ≡ head_facts norm ++ t
    numbered v true two is also same =
        let number : v ≡ pos 1 = (Decides-int_eq v (pos 1)).0 is in
        let both : (None, s) ≡ (norm, t) = same_ok _ _ same in
        let first : None ≡ norm = ap (λ z. z.0) both in
        let rest : s ≡ t = ap (λ z. z.1) both in
        rw (number, ← first, ← rest) refl
    numbered v false true is also same =
        let number : v ≡ pos 2 = (Decides-int_eq v (pos 2)).0 also in
        ap (λ z. fact.Cti z ∷ s) number ∙ norm_sound s t norm same
    numbered v false false is also same = err_ok _ (norm, t) same

    go : ((s : List Fact) → read_head (f ∷ s) ≡ wrong_at (f ∷ s) reason.Extra) ⊎ IsVersion f → f ∷ s ≡ head_facts norm ++ t
    go (inl none) = err_ok _ (norm, t) (sym (none s) ∙ e)
    go (inr (v, is)) = ap (λ z. z ∷ s) is ∙ numbered v (int_eq v (pos 1)) (int_eq v (pos 2)) refl refl (ap (λ z. read_head (z ∷ s)) (sym is) ∙ e)

pub head_back : (norm : Option CertNorm) (s : List Fact) → read_head (head_facts norm ++ s) ≡ Ok (norm, s)
unfolding read_head take_norm
head_back None s = refl
head_back (Some norm) s = refl

-- the parts, where the facts after them are notes, as a test says
abbrev pub noted : Bool → Parts × List Fact → Result Parts Wrong
noted b q = if◌then◌else◌ {A = Result Parts Wrong} b (Err (length q.1 - prefix_len is_note q.1, reason.Extra)) (Ok q.0)

module _ (p : Listing) (names : List (List ℕ)) (comps : Partition) (h : AreComponents p comps) where
  abbrev IsRead : List Fact → Parts → List Fact → Type 0
  IsRead s parts t = (s ≡ listed p names parts t) × HaveShape p comps parts

  pub parts_sound : (s t : List Fact) (parts : Parts) → read_parts p names comps s ≡ Ok (parts, t) → (s ≡ listed p names parts t) × HaveShape p comps parts
  unfolding read_parts read_sections
  parts_sound s t parts e =
      bound _ (read_head s) _ e λ head e0 more0.
      bound _ (read_each (read_modes p names) 0 (length p.preds) head.1) _ more0 λ modes e1 more1.
      bound _ (read_each (read_rows p names) 0 (length p.preds) modes.1) _ more1 λ rows e2 more2.
      bound _ (read_each (read_proofs p rows.0) 0 (length p.clauses) rows.1) _ more2 λ proofs e3 more3.
      bound _ (read_each (read_grounds p names) 0 (length p.preds) proofs.1) _ more3 λ grounds e4 more4.
      bound _ (read_levels p names comps [] 0 (length p.preds) grounds.1) _ more4 λ levels e5 more5.
      bound _ (read_each (read_falls p comps rows.0 levels.0) 0 (length p.clauses) levels.1) _ more5 λ falls e6 more6.
      bound _ (read_each (read_pre p names levels.0) 0 (length p.preds) falls.1) _ more6 λ cubes e7 more7.
      bound _ (read_each (read_refutation p names comps levels.0) 0 (length p.preds) cubes.1) _ more7 λ refutations e8 more8.
      let whole0 = head_sound s head.1 head.0 e0 in
      let (whole1, right1) = modes_section p names head.1 modes.1 modes.0 e1 in
      let (whole2, right2) = rows_section p names modes.1 rows.1 rows.0 e2 in
      let (whole3, right3) = proofs_section p rows.0 rows.1 proofs.1 proofs.0 e3 in
      let (whole4, right4) = grounds_section p names proofs.1 grounds.1 grounds.0 e4 in
      let (xs, all, count, whole5, right5) = levels_sound p names comps (first_le p comps h) (length p.preds) [] 0 grounds.1 levels.1 levels.0 refl (omega arith) e5 in
      let (whole6, right6) = falls_section p rows.0 comps levels.0 levels.1 falls.1 falls.0 e6 in
      let (whole7, right7) = pre_section p names levels.0 falls.1 cubes.1 cubes.0 e7 in
      let (whole8, right8) = refuted_section p names levels.0 comps cubes.1 refutations.1 refutations.0 e8 in
      let own5 : grounds.1 ≡ level_facts p names levels.0 ++ levels.1 = rw all whole5 in
      let last : (record { norm = head.0; modes = modes.0; rows = rows.0; row_proofs = proofs.0; grounds = grounds.0; levels = levels.0; falls = falls.0; preconditions = cubes.0; refutations = refutations.0 }, refutations.1) ≡ (parts, t) = same_ok _ _ more8 in
      let first : record { norm = head.0; modes = modes.0; rows = rows.0; row_proofs = proofs.0; grounds = grounds.0; levels = levels.0; falls = falls.0; preconditions = cubes.0; refutations = refutations.0 } ≡ parts = ap (λ q. q.0) last in
      let rest : refutations.1 ≡ t = ap (λ q. q.1) last in
      subst (λ u. IsRead s parts u) rest
      (subst (λ q. IsRead s q refutations.1) first (
        whole0
            ∙ ap (λ u. head_facts head.0 ++ u)
            (whole1
            ∙ ap (λ u. mode_facts p names modes.0 ++ u)
            (whole2
            ∙ ap (λ u. size_facts p names rows.0 ++ u)
            (whole3
            ∙ ap (λ u. proof_facts proofs.0 ++ u)
            (whole4
            ∙ ap (λ u. ground_facts p names grounds.0 ++ u)
            (own5
            ∙ ap (λ u. level_facts p names levels.0 ++ u)
            (whole6 ∙ ap (λ u. fall_facts falls.0 ++ u) (whole7 ∙ ap (λ u. pre_facts p names cubes.0 ++ u) whole8))))))),
        record {
          modes = right1;
          rows = right2;
          row_proofs = right3;
          grounds = right4;
          levels = record { count = rw all count; each = rw (← all) at right5 };
          falls = right6;
          preconditions = right7;
          refutations = right8;
        },
      ))

  pub parts_back : ((a b : ℕ) → a < b → b < length p.preds → pred_text p names b ≢ pred_text p names a) → (parts : Parts) (notes : List Fact) → HaveShape p comps parts → AreNotes notes
      → read_parts p names comps (listed p names parts notes) ≡ Ok (parts, notes)
  unfolding read_parts
  parts_back apart parts notes shape are =
      let s7 = refuted_facts p names parts.refutations ++ notes in
      let s6 = pre_facts p names parts.preconditions ++ s7 in
      let s5 = fall_facts parts.falls ++ s6 in
      let s4 = level_facts p names parts.levels ++ s5 in
      let s3 = ground_facts p names parts.grounds ++ s4 in
      let s2 = proof_facts parts.row_proofs ++ s3 in
      let s1 = size_facts p names parts.rows ++ s2 in
      let s0 = mode_facts p names parts.modes ++ s1 in
      let late7 : (m : ℕ) → m < 8 → AreLater m s7 = λ m few. all_both (λ f. m < kind f) (refuted_facts p names parts.refutations) notes (refuted_later p names m few parts.refutations) (notes_later m (omega (arith, few)) notes are) in
      let late6 : (m : ℕ) → m < 7 → AreLater m s6 = λ m few. all_both (λ f. m < kind f) (pre_facts p names parts.preconditions) s7 (pre_later p names m few parts.preconditions) (late7 m (omega (arith, few))) in
      let late5 : (m : ℕ) → m < 6 → AreLater m s5 = λ m few. all_both (λ f. m < kind f) (fall_facts parts.falls) s6 (falls_later m few parts.falls) (late6 m (omega (arith, few))) in
      let late4 : (m : ℕ) → m < 5 → AreLater m s4 = λ m few. all_both (λ f. m < kind f) (level_facts p names parts.levels) s5 (levels_later p names m few parts.levels) (late5 m (omega (arith, few))) in
      let late3 : (m : ℕ) → m < 4 → AreLater m s3 = λ m few. all_both (λ f. m < kind f) (ground_facts p names parts.grounds) s4 (grounds_later p names m few parts.grounds) (late4 m (omega (arith, few))) in
      let late2 : (m : ℕ) → m < 3 → AreLater m s2 = λ m few. all_both (λ f. m < kind f) (proof_facts parts.row_proofs) s3 (proofs_later m few parts.row_proofs) (late3 m (omega (arith, few))) in
      ap (λ z. z >>= λ x. read_sections p names comps x.0 x.1) (head_back parts.norm s0)
      ∙ all_read p names comps parts.norm s0 (length p.preds) (length p.clauses) refl refl
      parts.modes s1 (modes_listed p names parts.modes s1 shape.modes)
      parts.rows parts.rows s2 (rows_listed p names apart parts.rows s2 shape.rows (late2 2 (omega arith))) refl
      parts.row_proofs s3 (proofs_listed p parts.rows parts.row_proofs s3 shape.row_proofs)
      parts.grounds s4 (grounds_listed p names apart parts.grounds s4 shape.grounds (late4 4 (omega arith)))
      parts.levels parts.levels s5
      (levels_back p names comps (first_le p comps h) apart (length p.preds) [] 0 parts.levels s5 parts.levels refl (omega arith) shape.levels.count refl shape.levels.each
      (λ b. all_weaker (λ f. 5 < kind f) (NoLevel (pred_text p names b)) (λ f late. no_level (pred_text p names b) f late) s5 (late5 5 (omega arith))))
      refl
      parts.falls s6 (falls_listed p parts.rows comps parts.levels parts.falls s6 shape.falls)
      parts.preconditions s7 (pre_listed p names parts.levels apart parts.preconditions s7 shape.preconditions (late7 7 (omega arith)))
      parts.refutations notes (refuted_listed p names parts.levels comps apart parts.refutations notes shape.refutations (notes_later 8 (omega arith) notes are))

  -- all of it is read as what it is a certificate of
  pub whole_sound : (s : List Fact) (parts : Parts) → read_whole p names comps s ≡ Ok parts → IsStructured p names comps parts s
  unfolding read_whole
  whole_sound s parts e = bound with_notes (read_parts p names comps s) parts e λ q first more. go q first (nat_lt (prefix_len is_note q.1) (length q.1)) refl more
    where
      go : (q : Parts × List Fact) → read_parts p names comps s ≡ Ok q → (b : Bool) → nat_lt (prefix_len is_note q.1) (length q.1) ≡ b
          → noted b q ≡ Ok parts → IsStructured p names comps parts s
      go q first true test same = err_ok _ parts same
      go q first false test same =
          let own : q.0 ≡ parts = same_ok _ _ same in
          let (whole, shape) = parts_sound s q.1 q.0 first in
          subst (λ z. IsStructured p names comps z s) own (record { notes = q.1; are_notes = are_notes q.1 (ltb-false _ _ test); shape = shape; is = whole })

  pub whole_back : ((a b : ℕ) → a < b → b < length p.preds → pred_text p names b ≢ pred_text p names a) → (parts : Parts) (notes : List Fact) → HaveShape p comps parts → AreNotes notes
      → read_whole p names comps (listed p names parts notes) ≡ Ok parts
  unfolding read_whole
  whole_back apart parts notes shape are =
      ap (λ z. z >>= with_notes) (parts_back apart parts notes shape are)
      ∙ rw (all_notes notes are, le-ltb (length notes) (length notes) (omega arith)) refl
