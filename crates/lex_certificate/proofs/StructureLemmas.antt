-- Reading the sections of a certificate: what is read is listed so, and what is listed so is read.
use Rattle.std.proofs.Common.{◌≡◌, ◌≢◌, ℕ, ◌<◌, ◌≤◌, ◌⊎◌, inl, inr, List, [], ◌∷◌, ◌++◌, length, Option, Some, None, Ok, refl, arith}
use Rattle.std.proofs.lemmas.Bool.{false≢true}
use Rattle.std.specs.Prelude.{IsTrue}
use Rattle.std.specs.List.{AllByRecursion}
use Rattle.bool_diagrams.specs.declared.cube.Cell.{Cell}
use Rattle.call_components.specs.Partition.{Partition}
use Rattle.cert_structure.specs.Order.{pred_text}
use Rattle.cert_structure.specs.Shape.{arity_in, head_of, body_of, rows_of, rows_of_atoms, items_of, IsMode, IsSizeRow, HaveMultipliers, HasWidth}
use Rattle.cert_structure.proofs.ContentLemmas.{not_same}
use Rattle.certificate.specs.declared.pred_text.PredText.{PredText}
use Rattle.cti_terms.specs.Listing.{Listing}
use Rattle.fact_reading.specs.Numbered.{facts_from, lines_from, AreEach}
use Rattle.fact_reading.specs.Walk.{read_each}
use Rattle.fact_reading.proofs.SectionLemmas.{all_from, all_weaker, each_sound, each_back}
use Rattle.linear_rows.specs.declared.multipliers.Multipliers.{Multipliers}
use Rattle.linear_rows.specs.declared.row.Rows.{Rows}
use Rattle.number_tests.specs.declared.level_part.LevelPart.{LevelPart}
use Rattle.number_tests.specs.declared.refutation.Refutation.{Refutation}
use Rattle.lex_certificate.specs.declared.fact.LexFact.{LexFact}
use Rattle.lex_certificate.specs.declared.fact.LexFact.TheVariants as lex
use Rattle.lex_certificate.specs.Order.{by_line, grounds_line, level_line, drops_line, pre_line, point_line, stuck_lines, mode_facts, size_facts, proof_facts, ground_facts, level_facts, drop_facts, pre_facts, stuck_facts, is_note}
use Rattle.lex_certificate.specs.Shape.{IsStuckSet}
use Rattle.lex_certificate.specs.Structure.{AreNotes}
use Rattle.lex_certificate.specs.Walk.{shared, take_level, take_drop, read_modes, read_rows, read_proofs, read_grounds, read_drops, read_pre, read_stuck}
use Rattle.cert_structure.specs.Walk.{shared_row, shared_ground, shared_pre, shared_refuted}
use Rattle.lex_certificate.proofs.DropLemmas.{NoDrop, IsCall, calls_sound, calls_back, clause_apart}
use Rattle.lex_certificate.proofs.KindLemmas.{kind, fact_line, is_line, seen, split_level, split_drop, IsLevelFact, IsDrops}
use Rattle.cert_structure.proofs.SharedLemmas as laws
use Rattle.lex_certificate.proofs.ListLemmas.{NoLevel}
use Rattle.lex_certificate.proofs.StuckLemmas.{stuck_sound, stuck_given}

-- Facts of later kinds.
abbrev pub AreLater : ℕ → List LexFact → Type 0
AreLater m facts = AllByRecursion (λ f. m < kind f) facts

lines_later : {A : Type 0} (m : ℕ) (line : ℕ → A → LexFact) → ((i : ℕ) (x : A) → m < kind (line i x)) → (i : ℕ) (xs : List A) → AreLater m (lines_from i line xs)
lines_later m line h i xs = all_from (λ f. m < kind f) (λ k x. line k x ∷ []) (λ k x. (h k x, tt)) i xs

pub proofs_later : (m : ℕ) → m < 3 → (proofs : List (List Multipliers)) → AreLater m (proof_facts proofs)
proofs_later m h proofs = all_from (λ f. m < kind f) (λ k ms. lines_from 0 (by_line k) ms) (λ k ms. lines_later m (by_line k) (λ i x. h) 0 ms) 0 proofs

pub grounds_later : (p : Listing) (names : List (List ℕ)) (m : ℕ) → m < 4 → (cubes : List (List (List Cell))) → AreLater m (ground_facts p names cubes)
grounds_later p names m h cubes =
    all_from (λ f. m < kind f) (λ a cs. lines_from 0 (grounds_line (pred_text p names a)) cs) (λ a cs. lines_later m (grounds_line (pred_text p names a)) (λ i x. h) 0 cs) 0 cubes

pub levels_later : (p : Listing) (names : List (List ℕ)) (m : ℕ) → m < 5 → (lists : List (List (List LevelPart))) → AreLater m (level_facts p names lists)
levels_later p names m h lists =
    all_from (λ f. m < kind f) (λ a own. facts_from 0 (λ n ls. lines_from 0 (level_line (pred_text p names a) n) ls) own)
    (λ a own. all_from (λ f. m < kind f) (λ n ls. lines_from 0 (level_line (pred_text p names a) n) ls) (λ n ls. lines_later m (level_line (pred_text p names a) n) (λ i x. h) 0 ls) 0 own) 0 lists

pub drops_later : (m : ℕ) → m < 6 → (drops : List (List (List (List Multipliers)))) → AreLater m (drop_facts drops)
drops_later m h drops =
    all_from (λ f. m < kind f) (λ k calls. facts_from 0 (λ j lists. facts_from 0 (λ n ms. lines_from 0 (drops_line k j n) ms) lists) calls)
    (λ k calls. all_from (λ f. m < kind f) (λ j lists. facts_from 0 (λ n ms. lines_from 0 (drops_line k j n) ms) lists)
    (λ j lists. all_from (λ f. m < kind f) (λ n ms. lines_from 0 (drops_line k j n) ms) (λ n ms. lines_later m (drops_line k j n) (λ i x. h) 0 ms) 0 lists) 0 calls) 0 drops

pub pre_later : (p : Listing) (names : List (List ℕ)) (m : ℕ) → m < 7 → (cubes : List (List (List (List Cell)))) → AreLater m (pre_facts p names cubes)
pre_later p names m h cubes =
    all_from (λ f. m < kind f) (λ a ms. facts_from 0 (λ m cs. lines_from 0 (pre_line (pred_text p names a) m) cs) ms)
    (λ a ms. all_from (λ f. m < kind f) (λ m cs. lines_from 0 (pre_line (pred_text p names a) m) cs) (λ n cs. lines_later m (pre_line (pred_text p names a) n) (λ i x. h) 0 cs) 0 ms) 0 cubes

set_later : (m : ℕ) (pred : PredText) → m < 8 → (o : Option Refutation) → AreLater m (stuck_lines pred o)
set_later m pred h None = tt
set_later m pred h (Some r) = (h, lines_later m (λ _ x. point_line x) (λ i x. h) 0 r.points)

pub stuck_later : (p : Listing) (names : List (List ℕ)) (m : ℕ) → m < 8 → (stuck : List (Option Refutation)) → AreLater m (stuck_facts p names stuck)
stuck_later p names m h stuck =
    all_from (λ f. m < kind f) (λ a r. stuck_lines (pred_text p names a) r) (λ a r. set_later m (pred_text p names a) h r) 0 stuck

note_kind : (m : ℕ) → m < 9 → (f : LexFact) → IsTrue (is_note f) → m < kind f
note_kind m h (lex.Ctilex version) note = absurd (false≢true note)
note_kind m h (lex.Terminates q modes) note = absurd (false≢true note)
note_kind m h (lex.Size q index row) note = absurd (false≢true note)
note_kind m h (lex.By clause index scale list) note = absurd (false≢true note)
note_kind m h (lex.Grounds q index cells) note = absurd (false≢true note)
note_kind m h (lex.Level q list index coeffs offset) note = absurd (false≢true note)
note_kind m h (lex.Drops clause call list index scale numbers) note = absurd (false≢true note)
note_kind m h (lex.Pre q list index cells) note = absurd (false≢true note)
note_kind m h (lex.Refuted q points) note = absurd (false≢true note)
note_kind m h (lex.Point clause call t w) note = absurd (false≢true note)
note_kind m h (lex.Image step clause q rows) note = h
note_kind m h (lex.Step step q how rows) note = h
note_kind m h (lex.WeakImage step) note = h
note_kind m h (lex.WeakStep step) note = h
note_kind m h (lex.Blown q) note = h

pub notes_later : (m : ℕ) → m < 9 → (facts : List LexFact) → AreNotes facts → AreLater m facts
notes_later m h facts notes = all_weaker (λ f. IsTrue (is_note f)) (λ f. m < kind f) (note_kind m h) facts notes

-- a reader takes no fact of a later kind
-- a fact of a later kind is not one of this kind
no_later : (m : ℕ) (f g : LexFact) → f ≡ g → m < kind f → kind g ≤ m → ⊥
no_later m f g is late early = let later : m < kind g = rw is at late in omega (arith, later, early)

pub no_row : (pred : PredText) (f : LexFact) → 2 < kind f → (i : ℕ) → shared_row pred i (shared f) ≡ Some None
no_row pred f h = laws.no_row shared fact_line is_line seen pred f (λ q index row is. absurd (no_later 2 f (lex.Size q index row) is h (omega arith)))

pub no_ground : (pred : PredText) (f : LexFact) → 4 < kind f → (i : ℕ) → shared_ground pred i (shared f) ≡ Some None
no_ground pred f h = laws.no_ground shared fact_line is_line seen pred f (λ q index cells is. absurd (no_later 4 f (lex.Grounds q index cells) is h (omega arith)))

pub no_level : (pred : PredText) (f : LexFact) → 5 < kind f → NoLevel pred f
no_level pred f h m i = go (split_level f)
  where
    go : ((q : PredText) (m j : ℕ) → take_level q m j f ≡ Some None) ⊎ IsLevelFact f → take_level pred m i f ≡ Some None
    go (inl none) = none pred m i
    go (inr (q, list, index, coeffs, offset, is)) = let late : 5 < kind (lex.Level q list index coeffs offset) = rw is at h in absurd (omega (arith, late))

pub no_drop : (k j : ℕ) (f : LexFact) → 6 < kind f → NoDrop k j f
no_drop k j f h rows m i = go (split_drop f)
  where
    go : ((k j rows m i : ℕ) → take_drop k j rows m i f ≡ Some None) ⊎ IsDrops f → take_drop k j rows m i f ≡ Some None
    go (inl none) = none k j rows m i
    go (inr (clause, call, list, index, scale, numbers, is)) = let late : 6 < kind (lex.Drops clause call list index scale numbers) = rw is at h in absurd (omega (arith, late))

pub no_pre : (pred : PredText) (f : LexFact) → 7 < kind f → (m i : ℕ) → shared_pre pred m i (shared f) ≡ Some None
no_pre pred f h = laws.no_cube shared fact_line is_line seen pred f (λ q list index cells is. absurd (no_later 7 f (lex.Pre q list index cells) is h (omega arith)))

pub no_refuted : (pred : PredText) (f : LexFact) → 8 < kind f → shared_refuted pred 0 (shared f) ≡ Some None
no_refuted pred f h = laws.no_count shared fact_line is_line seen pred f (λ q points is. absurd (no_later 8 f (lex.Refuted q points) is h (omega arith))) 0

-- What is read of each section.
module _ (p : Listing) (names : List (List ℕ)) where
  abbrev text : ℕ → PredText
  text a = pred_text p names a

  pub modes_section : (s t : List LexFact) (xs : List (List (List ℕ))) → read_each (read_modes p names) 0 (length p.preds) s ≡ Ok (xs, t)
      → (s ≡ mode_facts p names xs ++ t) × AreEach (length p.preds) (λ a. AllByRecursion (IsMode (arity_in p a))) xs
  modes_section = laws.modes_section shared fact_line is_line seen p names

  pub modes_listed : (xs : List (List (List ℕ))) (t : List LexFact) → AreEach (length p.preds) (λ a. AllByRecursion (IsMode (arity_in p a))) xs
      → read_each (read_modes p names) 0 (length p.preds) (mode_facts p names xs ++ t) ≡ Ok (xs, t)
  modes_listed = laws.modes_listed shared fact_line is_line seen p names

  pub rows_section : (s t : List LexFact) (xs : List Rows) → read_each (read_rows p names) 0 (length p.preds) s ≡ Ok (xs, t)
      → (s ≡ size_facts p names xs ++ t) × AreEach (length p.preds) (λ a r. (r.width ≡ arity_in p a) × AllByRecursion (IsSizeRow (arity_in p a)) r.list) xs
  rows_section = laws.rows_section shared fact_line is_line seen p names

  pub grounds_section : (s t : List LexFact) (xs : List (List (List Cell))) → read_each (read_grounds p names) 0 (length p.preds) s ≡ Ok (xs, t)
      → (s ≡ ground_facts p names xs ++ t) × AreEach (length p.preds) (λ a. AllByRecursion (HasWidth (arity_in p a))) xs
  grounds_section = laws.grounds_section shared fact_line is_line seen p names

  module _ (apart : (a b : ℕ) → a < b → b < length p.preds → pred_text p names b ≢ pred_text p names a) where
    pub rows_listed : (xs : List Rows) (t : List LexFact)
        → AreEach (length p.preds) (λ a r. (r.width ≡ arity_in p a) × AllByRecursion (IsSizeRow (arity_in p a)) r.list) xs → AreLater 2 t
        → read_each (read_rows p names) 0 (length p.preds) (size_facts p names xs ++ t) ≡ Ok (xs, t)
    rows_listed xs t h later =
        laws.rows_listed shared fact_line is_line seen p names apart xs t h
        (λ a. all_weaker (λ f. 2 < kind f) (λ f. (i : ℕ) → shared_row (text a) i (shared f) ≡ Some None) (λ f late. no_row (text a) f late) t later)

    pub grounds_listed : (xs : List (List (List Cell))) (t : List LexFact) → AreEach (length p.preds) (λ a. AllByRecursion (HasWidth (arity_in p a))) xs → AreLater 4 t
        → read_each (read_grounds p names) 0 (length p.preds) (ground_facts p names xs ++ t) ≡ Ok (xs, t)
    grounds_listed xs t h later =
        laws.grounds_listed shared fact_line is_line seen p names apart xs t h
        (λ a. all_weaker (λ f. 4 < kind f) (λ f. (i : ℕ) → shared_ground (text a) i (shared f) ≡ Some None) (λ f late. no_ground (text a) f late) t later)

  module _ (lists : List (List (List LevelPart))) where
    pub pre_section : (s t : List LexFact) (xs : List (List (List (List Cell)))) → read_each (read_pre p names lists) 0 (length p.preds) s ≡ Ok (xs, t)
        → (s ≡ pre_facts p names xs ++ t) × AreEach (length p.preds) (λ a. AreEach (length (items_of lists a)) (λ _. AllByRecursion (HasWidth (arity_in p a)))) xs
    pre_section = laws.pre_section shared fact_line is_line seen p names lists

    pub pre_listed : ((a b : ℕ) → a < b → b < length p.preds → pred_text p names b ≢ pred_text p names a) → (xs : List (List (List (List Cell)))) (t : List LexFact)
        → AreEach (length p.preds) (λ a. AreEach (length (items_of lists a)) (λ _. AllByRecursion (HasWidth (arity_in p a)))) xs → AreLater 7 t
        → read_each (read_pre p names lists) 0 (length p.preds) (pre_facts p names xs ++ t) ≡ Ok (xs, t)
    pre_listed apart xs t h later =
        laws.pre_listed shared fact_line is_line seen p names lists apart xs t h
        (λ a. all_weaker (λ f. 7 < kind f) (λ f. (m i : ℕ) → shared_pre (text a) m i (shared f) ≡ Some None) (λ f late. no_pre (text a) f late) t later)

    module _ (comps : Partition) where
      pub stuck_section : (s t : List LexFact) (xs : List (Option Refutation)) → read_each (read_stuck p names comps lists) 0 (length p.preds) s ≡ Ok (xs, t)
          → (s ≡ stuck_facts p names xs ++ t) × AreEach (length p.preds) (IsStuckSet p comps lists) xs
      stuck_section s t xs e =
          let (whole, count, each) = each_sound (read_stuck p names comps lists) (λ a r. stuck_lines (pred_text p names a) r) (IsStuckSet p comps lists)
          (λ a s t x read. stuck_sound p names comps lists a s t x read)
          0 (length p.preds) s t xs e in
          (whole, record { count = count; each = each })

      pub stuck_listed : ((a b : ℕ) → a < b → b < length p.preds → pred_text p names b ≢ pred_text p names a) → (xs : List (Option Refutation)) (t : List LexFact)
          → AreEach (length p.preds) (IsStuckSet p comps lists) xs → AreLater 8 t
          → read_each (read_stuck p names comps lists) 0 (length p.preds) (stuck_facts p names xs ++ t) ≡ Ok (xs, t)
      unfolding shared_refuted
      stuck_listed apart xs t h later =
          each_back (read_stuck p names comps lists) (λ a r. stuck_lines (pred_text p names a) r) (IsStuckSet p comps lists)
          (λ a f. shared_refuted (text a) 0 (shared f) ≡ Some None) (length p.preds)
          (λ a x t below right none. stuck_given p names comps lists a t x right none)
          (λ a b x less below. none_of a (text b) (apart a b less below) x)
          0 (length p.preds) xs t h.count (omega arith) h.each
          (λ j below. all_weaker (λ f. 8 < kind f) (λ f. shared_refuted (text j) 0 (shared f) ≡ Some None) (λ f late. no_refuted (text j) f late) t later)
        where
          none_of : (a : ℕ) (q : PredText) → q ≢ text a → (o : Option Refutation) → AllByRecursion (λ f. shared_refuted (text a) 0 (shared f) ≡ Some None) (stuck_lines q o)
          none_of a q other None = tt
          none_of a q other (Some r) = (
            rw (not_same q (text a) other) refl,
            all_from (λ f. shared_refuted (text a) 0 (shared f) ≡ Some None) (λ _ x. point_line x ∷ []) (λ _ x. (refl, tt)) 0 r.points,
          )

module _ (p : Listing) (rows : List Rows) where
  pub proofs_section : (s t : List LexFact) (xs : List (List Multipliers)) → read_each (read_proofs p rows) 0 (length p.clauses) s ≡ Ok (xs, t)
      → (s ≡ proof_facts xs ++ t) × AreEach (length p.clauses) (λ k. AreEach (rows_of rows (head_of p k)) (λ _. HaveMultipliers (rows_of_atoms rows (body_of p k)))) xs
  proofs_section = laws.proofs_section shared fact_line is_line seen p rows

  pub proofs_listed : (xs : List (List Multipliers)) (t : List LexFact)
      → AreEach (length p.clauses) (λ k. AreEach (rows_of rows (head_of p k)) (λ _. HaveMultipliers (rows_of_atoms rows (body_of p k)))) xs
      → read_each (read_proofs p rows) 0 (length p.clauses) (proof_facts xs ++ t) ≡ Ok (xs, t)
  proofs_listed = laws.proofs_listed shared fact_line is_line seen p rows

  module _ (comps : Partition) (lists : List (List (List LevelPart))) where
    abbrev IsDropsOf : ℕ → List (List (List Multipliers)) → Type 0
    IsDropsOf k calls = AreEach (length (body_of p k)) (IsCall comps rows lists (head_of p k) k (body_of p k)) calls

    pub drops_section : (s t : List LexFact) (xs : List (List (List (List Multipliers)))) → read_each (read_drops p comps rows lists) 0 (length p.clauses) s ≡ Ok (xs, t)
        → (s ≡ drop_facts xs ++ t) × AreEach (length p.clauses) IsDropsOf xs
    unfolding read_drops
    drops_section s t xs e =
        let (whole, count, each) = each_sound (read_drops p comps rows lists) (λ k calls. facts_from 0 (λ j lists. facts_from 0 (λ m ms. lines_from 0 (drops_line k j m) ms) lists) calls) IsDropsOf
        (λ k s t x read.
        let (one, count, each) = calls_sound comps rows lists (head_of p k) k (body_of p k) [] (body_of p k) 0 0 s t x refl refl refl read in
        (one, record { count = count; each = each }))
        0 (length p.clauses) s t xs e in
        (whole, record { count = count; each = each })

    pub drops_listed : (xs : List (List (List (List Multipliers)))) (t : List LexFact) → AreEach (length p.clauses) IsDropsOf xs → AreLater 6 t
        → read_each (read_drops p comps rows lists) 0 (length p.clauses) (drop_facts xs ++ t) ≡ Ok (xs, t)
    unfolding read_drops
    drops_listed xs t h later =
        each_back (read_drops p comps rows lists) (λ k calls. facts_from 0 (λ j lists. facts_from 0 (λ m ms. lines_from 0 (drops_line k j m) ms) lists) calls) IsDropsOf
        (λ k f. (j : ℕ) → NoDrop k j f) (length p.clauses)
        (λ k x t below right none. calls_back comps rows lists (head_of p k) k (body_of p k) [] (body_of p k) 0 0 t x refl refl refl right.count right.each none)
        (λ a b x less below. clause_apart a b less x)
        0 (length p.clauses) xs t h.count (omega arith) h.each
        (λ k below. all_weaker (λ f. 6 < kind f) (λ f. (j : ℕ) → NoDrop k j f) (λ f late j. no_drop k j f late) t later)
