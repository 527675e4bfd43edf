-- Reading a whole certificate: what is read is its parts, and its parts are read.
use Rattle.std.proofs.Common.{◌≡◌, ◌≢◌, ℕ, ◌<◌, IfOk, IfSome, Result, Option, sym, Bool, true, false, if◌then◌else◌, List, [], ◌∷◌, ◌++◌, length, Some, None, Ok, Err, refl, ap, ◌∙◌, subst, arith}
use Rattle.std.proofs.lemmas.Bool.{and_parts}
use Rattle.std.proofs.lemmas.Option.{none-some}
use Rattle.std.specs.Prelude.{pos}
use Rattle.std.specs.List.{list_all}
use Rattle.call_components.specs.Partition.{Partition, AreComponents}
use Rattle.cert_structure.specs.Order.{pred_text}
use Rattle.cert_structure.proofs.ComponentLemmas.{first_le}
use Rattle.cti_terms.specs.Listing.{Listing}
use Rattle.fact_reading.specs.Walk.{◌>>=◌, Read, read_each, read_next}
use Rattle.fact_reading.proofs.SectionLemmas.{same_some, same_ok, bound, all_both, all_weaker, next_sound, next_back}
use Rattle.lex_certificate.specs.declared.fact.LexFact.{LexFact}
use Rattle.lex_certificate.specs.declared.fact.LexFact.TheVariants as lex
use Rattle.lex_certificate.specs.declared.parts.LexParts.{LexParts}
use Rattle.lex_certificate.specs.Order.{mode_facts, size_facts, proof_facts, ground_facts, level_facts, drop_facts, pre_facts, stuck_facts, listed, is_note}
use Rattle.lex_certificate.specs.Shape.{HaveShape}
use Rattle.lex_certificate.specs.Structure.{IsStructured, AreNotes}
use Rattle.lex_certificate.specs.Walk.{with_notes, take_version, read_whole, read_sections, read_modes, read_rows, read_proofs, read_grounds, read_levels, read_drops, read_pre, read_stuck, read_parts}
use Rattle.lex_certificate.proofs.KindLemmas.{kind}
use Rattle.lex_certificate.proofs.ListLemmas.{NoLevel, levels_sound, levels_back}
use Rattle.lex_certificate.proofs.StructureLemmas.{AreLater, proofs_later, grounds_later, levels_later, drops_later, pre_later, stuck_later, notes_later, no_level, modes_section, modes_listed, rows_section, rows_listed, proofs_section, proofs_listed, grounds_section, grounds_listed, drops_section, drops_listed, pre_section, pre_listed, stuck_section, stuck_listed}
use Rattle.lex_certificate.proofs.TakeLemmas.{version_taken, version_given}
use Rattle.lex_certificate.proofs.PartsLemmas.{all_read}

-- notes, as a test says
are_notes : (facts : List LexFact) → list_all is_note facts ≡ true → AreNotes facts
are_notes [] e = tt
are_notes (f ∷ facts) e = let (one, more) = and_parts (is_note f) (list_all is_note facts) e in (one, are_notes facts more)

all_notes : (facts : List LexFact) → AreNotes facts → list_all is_note facts ≡ true
all_notes [] h = refl
all_notes (f ∷ facts) h = rw (h.0, all_notes facts h.1) refl

module _ (p : Listing) (names : List (List ℕ)) (comps : Partition) (h : AreComponents p comps) where
  abbrev IsRead : List LexFact → LexParts → List LexFact → Type 0
  IsRead s parts t = (s ≡ listed p names parts t) × HaveShape p comps parts

  pub parts_sound : (s t : List LexFact) (parts : LexParts) → read_parts p names comps s ≡ Ok (parts, t) → (s ≡ listed p names parts t) × HaveShape p comps parts
  unfolding read_parts read_sections
  parts_sound s t parts e =
      bound _ (read_next take_version 0 s) _ e λ head e0 more0.
      bound _ (read_each (read_modes p names) 0 (length p.preds) head.1) _ more0 λ modes e1 more1.
      bound _ (read_each (read_rows p names) 0 (length p.preds) modes.1) _ more1 λ rows e2 more2.
      bound _ (read_each (read_proofs p rows.0) 0 (length p.clauses) rows.1) _ more2 λ proofs e3 more3.
      bound _ (read_each (read_grounds p names) 0 (length p.preds) proofs.1) _ more3 λ grounds e4 more4.
      bound _ (read_levels p names comps [] 0 (length p.preds) grounds.1) _ more4 λ lists e5 more5.
      bound _ (read_each (read_drops p comps rows.0 lists.0) 0 (length p.clauses) lists.1) _ more5 λ drops e6 more6.
      bound _ (read_each (read_pre p names lists.0) 0 (length p.preds) drops.1) _ more6 λ cubes e7 more7.
      bound _ (read_each (read_stuck p names comps lists.0) 0 (length p.preds) cubes.1) _ more7 λ stuck e8 more8.
      let (begins, version) = next_sound take_version (λ _ v. lex.Ctilex v) _ version_taken 0 s head.1 head.0 e0 in
      let whole0 : s ≡ lex.Ctilex (pos 1) ∷ head.1 = begins ∙ ap (λ v. lex.Ctilex v ∷ head.1) version in
      let (whole1, right1) = modes_section p names head.1 modes.1 modes.0 e1 in
      let (whole2, right2) = rows_section p names modes.1 rows.1 rows.0 e2 in
      let (whole3, right3) = proofs_section p rows.0 rows.1 proofs.1 proofs.0 e3 in
      let (whole4, right4) = grounds_section p names proofs.1 grounds.1 grounds.0 e4 in
      let (xs, all, count, whole5, right5) = levels_sound p names comps (first_le p comps h) (length p.preds) [] 0 grounds.1 lists.1 lists.0 tt refl (omega arith) e5 in
      let (whole6, right6) = drops_section p rows.0 comps lists.0 lists.1 drops.1 drops.0 e6 in
      let (whole7, right7) = pre_section p names lists.0 drops.1 cubes.1 cubes.0 e7 in
      let (whole8, right8) = stuck_section p names lists.0 comps cubes.1 stuck.1 stuck.0 e8 in
      let own5 : grounds.1 ≡ level_facts p names lists.0 ++ lists.1 = rw all whole5 in
      let last : (record { modes = modes.0; rows = rows.0; row_proofs = proofs.0; grounds = grounds.0; lists = lists.0; drops = drops.0; preconditions = cubes.0; stuck = stuck.0 }, stuck.1) ≡ (parts, t) = same_ok _ _ more8 in
      let first : record { modes = modes.0; rows = rows.0; row_proofs = proofs.0; grounds = grounds.0; lists = lists.0; drops = drops.0; preconditions = cubes.0; stuck = stuck.0 } ≡ parts = ap (λ q. q.0) last in
      let rest : stuck.1 ≡ t = ap (λ q. q.1) last in
      subst (λ u. IsRead s parts u) rest
      (subst (λ q. IsRead s q stuck.1) first (
        whole0
            ∙ ap (λ u. lex.Ctilex (pos 1) ∷ u)
            (whole1
            ∙ ap (λ u. mode_facts p names modes.0 ++ u)
            (whole2
            ∙ ap (λ u. size_facts p names rows.0 ++ u)
            (whole3
            ∙ ap (λ u. proof_facts proofs.0 ++ u)
            (whole4
            ∙ ap (λ u. ground_facts p names grounds.0 ++ u)
            (own5
            ∙ ap (λ u. level_facts p names lists.0 ++ u)
            (whole6 ∙ ap (λ u. drop_facts drops.0 ++ u) (whole7 ∙ ap (λ u. pre_facts p names cubes.0 ++ u) whole8))))))),
        record {
          modes = right1;
          rows = right2;
          row_proofs = right3;
          grounds = right4;
          lists = record { count = rw all count; each = rw (← all) at right5 };
          drops = right6;
          preconditions = right7;
          stuck = right8;
        },
      ))

  pub parts_back : ((a b : ℕ) → a < b → b < length p.preds → pred_text p names b ≢ pred_text p names a) → (parts : LexParts) (notes : List LexFact) → HaveShape p comps parts → AreNotes notes
      → read_parts p names comps (listed p names parts notes) ≡ Ok (parts, notes)
  unfolding read_parts
  parts_back apart parts notes shape are =
      let s7 = stuck_facts p names parts.stuck ++ notes in
      let s6 = pre_facts p names parts.preconditions ++ s7 in
      let s5 = drop_facts parts.drops ++ s6 in
      let s4 = level_facts p names parts.lists ++ s5 in
      let s3 = ground_facts p names parts.grounds ++ s4 in
      let s2 = proof_facts parts.row_proofs ++ s3 in
      let s1 = size_facts p names parts.rows ++ s2 in
      let s0 = mode_facts p names parts.modes ++ s1 in
      let late7 : (m : ℕ) → m < 8 → AreLater m s7 = λ m few. all_both (λ f. m < kind f) (stuck_facts p names parts.stuck) notes (stuck_later p names m few parts.stuck) (notes_later m (omega (arith, few)) notes are) in
      let late6 : (m : ℕ) → m < 7 → AreLater m s6 = λ m few. all_both (λ f. m < kind f) (pre_facts p names parts.preconditions) s7 (pre_later p names m few parts.preconditions) (late7 m (omega (arith, few))) in
      let late5 : (m : ℕ) → m < 6 → AreLater m s5 = λ m few. all_both (λ f. m < kind f) (drop_facts parts.drops) s6 (drops_later m few parts.drops) (late6 m (omega (arith, few))) in
      let late4 : (m : ℕ) → m < 5 → AreLater m s4 = λ m few. all_both (λ f. m < kind f) (level_facts p names parts.lists) s5 (levels_later p names m few parts.lists) (late5 m (omega (arith, few))) in
      let late3 : (m : ℕ) → m < 4 → AreLater m s3 = λ m few. all_both (λ f. m < kind f) (ground_facts p names parts.grounds) s4 (grounds_later p names m few parts.grounds) (late4 m (omega (arith, few))) in
      let late2 : (m : ℕ) → m < 3 → AreLater m s2 = λ m few. all_both (λ f. m < kind f) (proof_facts parts.row_proofs) s3 (proofs_later m few parts.row_proofs) (late3 m (omega (arith, few))) in
      ap (λ z. z >>= λ x. read_sections p names comps x.1) (next_back take_version (λ _ v. lex.Ctilex v) _ version_given 0 (pos 1) s0 refl)
      ∙ all_read p names comps s0 (length p.preds) (length p.clauses) refl refl
      parts.modes s1 (modes_listed p names parts.modes s1 shape.modes)
      parts.rows parts.rows s2 (rows_listed p names apart parts.rows s2 shape.rows (late2 2 (omega arith))) refl
      parts.row_proofs s3 (proofs_listed p parts.rows parts.row_proofs s3 shape.row_proofs)
      parts.grounds s4 (grounds_listed p names apart parts.grounds s4 shape.grounds (late4 4 (omega arith)))
      parts.lists parts.lists s5
      (levels_back p names comps (first_le p comps h) apart (length p.preds) [] 0 parts.lists s5 parts.lists refl (omega arith) shape.lists.count refl shape.lists.each
      (λ b. all_weaker (λ f. 5 < kind f) (NoLevel (pred_text p names b)) (λ f late. no_level (pred_text p names b) f late) s5 (late5 5 (omega arith))))
      refl
      parts.drops s6 (drops_listed p parts.rows comps parts.lists parts.drops s6 shape.drops (late6 6 (omega arith)))
      parts.preconditions s7 (pre_listed p names parts.lists apart parts.preconditions s7 shape.preconditions (late7 7 (omega arith)))
      parts.stuck notes (stuck_listed p names parts.lists comps apart parts.stuck notes shape.stuck (notes_later 8 (omega arith) notes are))

  -- all of it is read as what it is a certificate of
  pub whole_sound : (s : List LexFact) (parts : LexParts) → read_whole p names comps s ≡ Some parts → IsStructured p names comps parts s
  unfolding read_whole
  whole_sound s parts e = go (read_parts p names comps s) refl e
    where
      noted : (q : LexParts × List LexFact) → read_parts p names comps s ≡ Ok q → (b : Bool) → list_all is_note q.1 ≡ b → (if b then Some q.0 else None) ≡ Some parts
          → IsStructured p names comps parts s
      noted q first false test same = absurd (none-some _ same)
      noted q first true test same =
          let own : q.0 ≡ parts = same_some q.0 parts same in
          let (whole, shape) = parts_sound s q.1 q.0 first in
          subst (λ z. IsStructured p names comps z s) own (record { notes = q.1; are_notes = are_notes q.1 test; shape = shape; is = whole })

      go : (o : Read LexFact LexParts) → read_parts p names comps s ≡ o → with_notes o ≡ Some parts → IsStructured p names comps parts s
      go (Err w) first same = absurd (none-some _ same)
      go (Ok q) first same = noted q first (list_all is_note q.1) refl same

  pub whole_back : ((a b : ℕ) → a < b → b < length p.preds → pred_text p names b ≢ pred_text p names a) → (parts : LexParts) (notes : List LexFact) → HaveShape p comps parts → AreNotes notes
      → read_whole p names comps (listed p names parts notes) ≡ Some parts
  unfolding read_whole
  whole_back apart parts notes shape are = ap with_notes (parts_back apart parts notes shape are) ∙ rw (all_notes notes are) refl

  -- what the code finds
  pub found_parts : {E : Type 0} (s : List LexFact) (r : Result (Option LexParts) E) → IfOk r (λ found. found ≡ read_whole p names comps s)
      → IfOk r (λ found. IfSome found (λ parts. IsStructured p names comps parts s))
  found_parts s (Err e) h = tt
  found_parts s (Ok None) h = tt
  found_parts s (Ok (Some parts)) h = whole_sound s parts (sym h)

  pub found_all : {E : Type 0} (s : List LexFact) (r : Result (Option LexParts) E) (parts : LexParts) → read_whole p names comps s ≡ Some parts
      → IfOk r (λ found. found ≡ read_whole p names comps s) → IfOk r (λ found. found ≡ Some parts)
  found_all s (Err e) parts is h = tt
  found_all s (Ok found) parts is h = h ∙ is
