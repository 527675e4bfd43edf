-- Reading the sections of a certificate: what is read is listed so, and what is listed so is read.
use Rattle.std.proofs.Common.{◌≡◌, ◌≢◌, ℕ, ◌<◌, ◌≤◌, ◌⊎◌, inl, inr, List, [], ◌∷◌, ◌++◌, length, Option, Some, None, Ok, refl, arith}
use Rattle.std.proofs.lemmas.Bool.{false≢true}
use Rattle.std.specs.Prelude.{IsTrue}
use Rattle.std.specs.List.{AllByRecursion}
use Rattle.bool_diagrams.specs.declared.cube.Cell.{Cell}
use Rattle.call_components.specs.Partition.{Partition}
use Rattle.certificate.specs.declared.pred_text.PredText.{PredText}
use Rattle.certificate.specs.declared.fact.Fact.{Fact}
use Rattle.certificate.specs.declared.fact.Fact.TheVariants as fact
use Rattle.cti_terms.specs.Listing.{Listing}
use Rattle.linear_rows.specs.declared.multipliers.Multipliers.{Multipliers}
use Rattle.linear_rows.specs.declared.row.Rows.{Rows}
use Rattle.number_tests.specs.declared.level_part.LevelPart.{LevelPart}
use Rattle.linear_rows.specs.declared.point.Point.{Point}
use Rattle.number_tests.specs.declared.refutation.Refutation.{Refutation}
use Rattle.fact_reading.specs.Numbered.{facts_from, lines_from, AreEach}
use Rattle.cert_structure.specs.Order.{pred_text, by_line, grounds_line, measure_line, falls_line, pre_line, at_facts, point_facts, refutation_facts, mode_facts, size_facts, proof_facts, ground_facts, level_facts, fall_facts, pre_facts, refuted_facts, is_note}
use Rattle.cert_structure.specs.Shape.{arity_in, head_of, body_of, rows_of, rows_of_atoms, items_of, IsMode, IsSizeRow, HaveMultipliers, HasWidth, IsRefutation}
use Rattle.cert_structure.specs.Structure.{AreNotes}
use Rattle.cert_structure.specs.Walk.{take_row, take_ground, take_level, take_pre, take_refuted, read_modes, read_rows, read_proofs, read_grounds, read_falls, read_pre, read_refutation, shared_refuted}
use Rattle.fact_reading.specs.Walk.{read_each}
use Rattle.cert_structure.proofs.KindLemmas.{kind, split_level, IsMeasure, fact_line, is_line, seen}
use Rattle.fact_reading.proofs.SectionLemmas.{all_from, all_weaker, each_sound, each_back}
use Rattle.cert_structure.proofs.ContentLemmas.{not_same}
use Rattle.cert_structure.proofs.PointLemmas.{refutation_sound, refutation_given}
use Rattle.cert_structure.proofs.LevelLemmas.{NoLevel, IsCall, calls_sound, calls_back}
use Rattle.cert_structure.specs.SharedFacts.{shared}
use Rattle.cert_structure.proofs.SharedLemmas as laws

-- Facts of later kinds.
abbrev pub AreLater : ℕ → List Fact → Type 0
AreLater m facts = AllByRecursion (λ f. m < kind f) facts

lines_later : {A : Type 0} (m : ℕ) (line : ℕ → A → Fact) → ((i : ℕ) (x : A) → m < kind (line i x)) → (i : ℕ) (xs : List A) → AreLater m (lines_from i line xs)
lines_later m line h i xs = all_from (λ f. m < kind f) (λ k x. line k x ∷ []) (λ k x. (h k x, tt)) i xs

pub proofs_later : (m : ℕ) → m < 3 → (proofs : List (List Multipliers)) → AreLater m (proof_facts proofs)
proofs_later m h proofs = all_from (λ f. m < kind f) (λ k ms. lines_from 0 (by_line k) ms) (λ k ms. lines_later m (by_line k) (λ i x. h) 0 ms) 0 proofs

pub grounds_later : (p : Listing) (names : List (List ℕ)) (m : ℕ) → m < 4 → (cubes : List (List (List Cell))) → AreLater m (ground_facts p names cubes)
grounds_later p names m h cubes =
    all_from (λ f. m < kind f) (λ a cs. lines_from 0 (grounds_line (pred_text p names a)) cs) (λ a cs. lines_later m (grounds_line (pred_text p names a)) (λ i x. h) 0 cs) 0 cubes

pub levels_later : (p : Listing) (names : List (List ℕ)) (m : ℕ) → m < 5 → (levels : List (List LevelPart)) → AreLater m (level_facts p names levels)
levels_later p names m h levels =
    all_from (λ f. m < kind f) (λ a ls. lines_from 0 (measure_line (pred_text p names a)) ls) (λ a ls. lines_later m (measure_line (pred_text p names a)) (λ i x. h) 0 ls) 0 levels

pub falls_later : (m : ℕ) → m < 6 → (falls : List (List (List Multipliers))) → AreLater m (fall_facts falls)
falls_later m h falls =
    all_from (λ f. m < kind f) (λ k calls. facts_from 0 (λ j ms. lines_from 0 (falls_line k j) ms) calls)
    (λ k calls. all_from (λ f. m < kind f) (λ j ms. lines_from 0 (falls_line k j) ms) (λ j ms. lines_later m (falls_line k j) (λ i x. h) 0 ms) 0 calls) 0 falls

pub pre_later : (p : Listing) (names : List (List ℕ)) (m : ℕ) → m < 7 → (cubes : List (List (List (List Cell)))) → AreLater m (pre_facts p names cubes)
pre_later p names m h cubes =
    all_from (λ f. m < kind f) (λ a ms. facts_from 0 (λ m cs. lines_from 0 (pre_line (pred_text p names a) m) cs) ms)
    (λ a ms. all_from (λ f. m < kind f) (λ m cs. lines_from 0 (pre_line (pred_text p names a) m) cs) (λ n cs. lines_later m (pre_line (pred_text p names a) n) (λ i x. h) 0 cs) 0 ms) 0 cubes

second_later : (m clause call : ℕ) → m < 8 → (o : Option Point) → AreLater m (at_facts clause call o)
second_later m clause call h None = tt
second_later m clause call h (Some x) = (h, tt)

group_later : (m : ℕ) (pred : PredText) → m < 8 → (o : Option Refutation) → AreLater m (refutation_facts pred o)
group_later m pred h None = tt
group_later m pred h (Some r) = (h, all_from (λ f. m < kind f) (λ _ x. point_facts x) (λ _ x. (h, second_later m x.clause x.call h x.at)) 0 r.points)

pub refuted_later : (p : Listing) (names : List (List ℕ)) (m : ℕ) → m < 8 → (refutations : List (Option Refutation)) → AreLater m (refuted_facts p names refutations)
refuted_later p names m h refutations =
    all_from (λ f. m < kind f) (λ a r. refutation_facts (pred_text p names a) r) (λ a r. group_later m (pred_text p names a) h r) 0 refutations

note_kind : (m : ℕ) → m < 9 → (f : Fact) → IsTrue (is_note f) → m < kind f
note_kind m h (fact.Cti version) note = absurd (false≢true note)
note_kind m h (fact.Norm norm) note = absurd (false≢true note)
note_kind m h (fact.Terminates q modes) note = absurd (false≢true note)
note_kind m h (fact.Size q index row) note = absurd (false≢true note)
note_kind m h (fact.By clause index scale list) note = absurd (false≢true note)
note_kind m h (fact.Grounds q index cells) note = absurd (false≢true note)
note_kind m h (fact.Measure q mapping coeffs offset) note = absurd (false≢true note)
note_kind m h (fact.Falls clause call mapping scale list) note = absurd (false≢true note)
note_kind m h (fact.Pre q mapping index cells) note = absurd (false≢true note)
note_kind m h (fact.Refuted q points) note = absurd (false≢true note)
note_kind m h (fact.Point clause call t w) note = absurd (false≢true note)
note_kind m h (fact.At clause call t w) note = absurd (false≢true note)
note_kind m h (fact.Image step clause q rows) note = h
note_kind m h (fact.Step step q how rows) note = h
note_kind m h (fact.WeakImage step) note = h
note_kind m h (fact.WeakStep step) note = h
note_kind m h (fact.Blown q support) note = h
note_kind m h (fact.Large q positions) note = h

pub notes_later : (m : ℕ) → m < 9 → (facts : List Fact) → AreNotes facts → AreLater m facts
notes_later m h facts notes = all_weaker (λ f. IsTrue (is_note f)) (λ f. m < kind f) (note_kind m h) facts notes

-- a reader takes no fact of a later kind
-- a fact of a later kind is not one of this kind
no_later : (m : ℕ) (f g : Fact) → f ≡ g → m < kind f → kind g ≤ m → ⊥
no_later m f g is late early = let later : m < kind g = rw is at late in omega (arith, later, early)

pub no_row : (pred : PredText) (f : Fact) → 2 < kind f → (i : ℕ) → take_row pred i f ≡ Some None
no_row pred f h = laws.no_row shared fact_line is_line seen pred f (λ q index row is. absurd (no_later 2 f (fact.Size q index row) is h (omega arith)))

pub no_ground : (pred : PredText) (f : Fact) → 4 < kind f → (i : ℕ) → take_ground pred i f ≡ Some None
no_ground pred f h = laws.no_ground shared fact_line is_line seen pred f (λ q index cells is. absurd (no_later 4 f (fact.Grounds q index cells) is h (omega arith)))

pub no_level : (pred : PredText) (f : Fact) → 5 < kind f → NoLevel pred f
no_level pred f h i = go (split_level f)
  where
    go : ((q : PredText) (j : ℕ) → take_level q j f ≡ Some None) ⊎ IsMeasure f → take_level pred i f ≡ Some None
    go (inl none) = none pred i
    go (inr (q, mapping, coeffs, offset, is)) = let late : 5 < kind (fact.Measure q mapping coeffs offset) = rw is at h in absurd (omega (arith, late))

pub no_pre : (pred : PredText) (f : Fact) → 7 < kind f → (m i : ℕ) → take_pre pred m i f ≡ Some None
no_pre pred f h = laws.no_cube shared fact_line is_line seen pred f (λ q mapping index cells is. absurd (no_later 7 f (fact.Pre q mapping index cells) is h (omega arith)))

pub no_refuted : (pred : PredText) (f : Fact) → 8 < kind f → take_refuted pred 0 f ≡ Some None
no_refuted pred f h = laws.no_count shared fact_line is_line seen pred f (λ q points is. absurd (no_later 8 f (fact.Refuted q points) is h (omega arith))) 0

-- What is read of each section.
module _ (p : Listing) (names : List (List ℕ)) where
  abbrev text : ℕ → PredText
  text a = pred_text p names a

  pub modes_section : (s t : List Fact) (xs : List (List (List ℕ))) → read_each (read_modes p names) 0 (length p.preds) s ≡ Ok (xs, t)
      → (s ≡ mode_facts p names xs ++ t) × AreEach (length p.preds) (λ a. AllByRecursion (IsMode (arity_in p a))) xs
  modes_section = laws.modes_section shared fact_line is_line seen p names

  pub modes_listed : (xs : List (List (List ℕ))) (t : List Fact) → AreEach (length p.preds) (λ a. AllByRecursion (IsMode (arity_in p a))) xs
      → read_each (read_modes p names) 0 (length p.preds) (mode_facts p names xs ++ t) ≡ Ok (xs, t)
  modes_listed = laws.modes_listed shared fact_line is_line seen p names

  pub rows_section : (s t : List Fact) (xs : List Rows) → read_each (read_rows p names) 0 (length p.preds) s ≡ Ok (xs, t)
      → (s ≡ size_facts p names xs ++ t) × AreEach (length p.preds) (λ a r. (r.width ≡ arity_in p a) × AllByRecursion (IsSizeRow (arity_in p a)) r.list) xs
  rows_section = laws.rows_section shared fact_line is_line seen p names

  pub grounds_section : (s t : List Fact) (xs : List (List (List Cell))) → read_each (read_grounds p names) 0 (length p.preds) s ≡ Ok (xs, t)
      → (s ≡ ground_facts p names xs ++ t) × AreEach (length p.preds) (λ a. AllByRecursion (HasWidth (arity_in p a))) xs
  grounds_section = laws.grounds_section shared fact_line is_line seen p names

  module _ (apart : (a b : ℕ) → a < b → b < length p.preds → pred_text p names b ≢ pred_text p names a) where
    pub rows_listed : (xs : List Rows) (t : List Fact)
        → AreEach (length p.preds) (λ a r. (r.width ≡ arity_in p a) × AllByRecursion (IsSizeRow (arity_in p a)) r.list) xs → AreLater 2 t
        → read_each (read_rows p names) 0 (length p.preds) (size_facts p names xs ++ t) ≡ Ok (xs, t)
    rows_listed xs t h later =
        laws.rows_listed shared fact_line is_line seen p names apart xs t h
        (λ a. all_weaker (λ f. 2 < kind f) (λ f. (i : ℕ) → take_row (text a) i f ≡ Some None) (λ f late. no_row (text a) f late) t later)

    pub grounds_listed : (xs : List (List (List Cell))) (t : List Fact) → AreEach (length p.preds) (λ a. AllByRecursion (HasWidth (arity_in p a))) xs → AreLater 4 t
        → read_each (read_grounds p names) 0 (length p.preds) (ground_facts p names xs ++ t) ≡ Ok (xs, t)
    grounds_listed xs t h later =
        laws.grounds_listed shared fact_line is_line seen p names apart xs t h
        (λ a. all_weaker (λ f. 4 < kind f) (λ f. (i : ℕ) → take_ground (text a) i f ≡ Some None) (λ f late. no_ground (text a) f late) t later)

  module _ (levels : List (List LevelPart)) where
    pub cubes_section : (a : ℕ) (s t : List Fact) (xs : List (List (List Cell))) → read_pre p names levels a s ≡ Ok (xs, t)
        → (s ≡ facts_from 0 (λ m cs. lines_from 0 (pre_line (pred_text p names a) m) cs) xs ++ t) × AreEach (length (items_of levels a)) (λ _. AllByRecursion (HasWidth (arity_in p a))) xs
    cubes_section = laws.cubes_section shared fact_line is_line seen p names levels

    pub pre_section : (s t : List Fact) (xs : List (List (List (List Cell)))) → read_each (read_pre p names levels) 0 (length p.preds) s ≡ Ok (xs, t)
        → (s ≡ pre_facts p names xs ++ t) × AreEach (length p.preds) (λ a. AreEach (length (items_of levels a)) (λ _. AllByRecursion (HasWidth (arity_in p a)))) xs
    pre_section = laws.pre_section shared fact_line is_line seen p names levels

    pub pre_listed : ((a b : ℕ) → a < b → b < length p.preds → pred_text p names b ≢ pred_text p names a) → (xs : List (List (List (List Cell)))) (t : List Fact)
        → AreEach (length p.preds) (λ a. AreEach (length (items_of levels a)) (λ _. AllByRecursion (HasWidth (arity_in p a)))) xs → AreLater 7 t
        → read_each (read_pre p names levels) 0 (length p.preds) (pre_facts p names xs ++ t) ≡ Ok (xs, t)
    pre_listed apart xs t h later =
        laws.pre_listed shared fact_line is_line seen p names levels apart xs t h
        (λ a. all_weaker (λ f. 7 < kind f) (λ f. (m i : ℕ) → take_pre (text a) m i f ≡ Some None) (λ f late. no_pre (text a) f late) t later)

    module _ (comps : Partition) where
      pub refuted_section : (s t : List Fact) (xs : List (Option Refutation)) → read_each (read_refutation p names comps levels) 0 (length p.preds) s ≡ Ok (xs, t)
          → (s ≡ refuted_facts p names xs ++ t) × AreEach (length p.preds) (IsRefutation p comps levels) xs
      refuted_section s t xs e =
          let (whole, count, each) = each_sound (read_refutation p names comps levels) (λ a r. refutation_facts (pred_text p names a) r) (IsRefutation p comps levels)
          (λ a s t x read. refutation_sound p names comps levels a s t x read)
          0 (length p.preds) s t xs e in
          (whole, record { count = count; each = each })

      pub refuted_listed : ((a b : ℕ) → a < b → b < length p.preds → pred_text p names b ≢ pred_text p names a) → (xs : List (Option Refutation)) (t : List Fact)
          → AreEach (length p.preds) (IsRefutation p comps levels) xs → AreLater 8 t
          → read_each (read_refutation p names comps levels) 0 (length p.preds) (refuted_facts p names xs ++ t) ≡ Ok (xs, t)
      unfolding shared_refuted
      refuted_listed apart xs t h later =
          each_back (read_refutation p names comps levels) (λ a r. refutation_facts (pred_text p names a) r) (IsRefutation p comps levels)
          (λ a f. take_refuted (text a) 0 f ≡ Some None) (length p.preds)
          (λ a x t below right none. refutation_given p names comps levels a t x right none)
          (λ a b x less below. none_of a (text b) (apart a b less below) x)
          0 (length p.preds) xs t h.count (omega arith) h.each
          (λ j below. all_weaker (λ f. 8 < kind f) (λ f. take_refuted (text j) 0 f ≡ Some None) (λ f late. no_refuted (text j) f late) t later)
        where
          none_at : (a clause call : ℕ) (o : Option Point) → AllByRecursion (λ f. take_refuted (text a) 0 f ≡ Some None) (at_facts clause call o)
          none_at a clause call None = tt
          none_at a clause call (Some x) = (refl, tt)

          none_of : (a : ℕ) (q : PredText) → q ≢ text a → (o : Option Refutation) → AllByRecursion (λ f. take_refuted (text a) 0 f ≡ Some None) (refutation_facts q o)
          none_of a q other None = tt
          none_of a q other (Some r) = (
            rw (not_same q (text a) other) refl,
            all_from (λ f. take_refuted (text a) 0 f ≡ Some None) (λ _ x. point_facts x) (λ _ x. (refl, none_at a x.clause x.call x.at)) 0 r.points,
          )

module _ (p : Listing) (rows : List Rows) where
  pub proofs_section : (s t : List Fact) (xs : List (List Multipliers)) → read_each (read_proofs p rows) 0 (length p.clauses) s ≡ Ok (xs, t)
      → (s ≡ proof_facts xs ++ t) × AreEach (length p.clauses) (λ k. AreEach (rows_of rows (head_of p k)) (λ _. HaveMultipliers (rows_of_atoms rows (body_of p k)))) xs
  proofs_section = laws.proofs_section shared fact_line is_line seen p rows

  free : (u : List Fact) → AllByRecursion (λ (f : Fact). Unit {0}) u
  free [] = tt
  free (f ∷ u) = (tt, free u)

  pub proofs_listed : (xs : List (List Multipliers)) (t : List Fact)
      → AreEach (length p.clauses) (λ k. AreEach (rows_of rows (head_of p k)) (λ _. HaveMultipliers (rows_of_atoms rows (body_of p k)))) xs
      → read_each (read_proofs p rows) 0 (length p.clauses) (proof_facts xs ++ t) ≡ Ok (xs, t)
  proofs_listed = laws.proofs_listed shared fact_line is_line seen p rows

  module _ (comps : Partition) (levels : List (List LevelPart)) where
    abbrev IsFalls : ℕ → List (List Multipliers) → Type 0
    IsFalls k calls = AreEach (length (body_of p k)) (IsCall comps rows levels (head_of p k) k (body_of p k)) calls

    pub falls_section : (s t : List Fact) (xs : List (List (List Multipliers))) → read_each (read_falls p comps rows levels) 0 (length p.clauses) s ≡ Ok (xs, t)
        → (s ≡ fall_facts xs ++ t) × AreEach (length p.clauses) IsFalls xs
    unfolding read_falls
    falls_section s t xs e =
        let (whole, count, each) = each_sound (read_falls p comps rows levels) (λ k calls. facts_from 0 (λ j ms. lines_from 0 (falls_line k j) ms) calls) IsFalls
        (λ k s t x read.
        let (one, count, each) = calls_sound comps rows levels (head_of p k) k (body_of p k) [] (body_of p k) 0 0 s t x refl refl refl read in
        (one, record { count = count; each = each }))
        0 (length p.clauses) s t xs e in
        (whole, record { count = count; each = each })

    pub falls_listed : (xs : List (List (List Multipliers))) (t : List Fact) → AreEach (length p.clauses) IsFalls xs
        → read_each (read_falls p comps rows levels) 0 (length p.clauses) (fall_facts xs ++ t) ≡ Ok (xs, t)
    unfolding read_falls
    falls_listed xs t h =
        each_back (read_falls p comps rows levels) (λ k calls. facts_from 0 (λ j ms. lines_from 0 (falls_line k j) ms) calls) IsFalls
        (λ a f. Unit {0}) (length p.clauses)
        (λ k x t below right none. calls_back comps rows levels (head_of p k) k (body_of p k) [] (body_of p k) 0 0 t x refl refl refl right.count right.each)
        (λ a b x less below. free (facts_from 0 (λ j ms. lines_from 0 (falls_line b j) ms) x))
        0 (length p.clauses) xs t h.count (omega arith) h.each (λ j below. free t)
