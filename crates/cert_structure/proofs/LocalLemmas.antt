-- The first wrong fact depends on the facts up to it alone, and a fact that may not stand at a place may not stand
-- there with other contents.
use Rattle.std.proofs.Common.{◌≡◌, ℕ, zero, suc, ◌+◌, ◌⊎◌, inl, inr, Bool, true, false, ◌&&◌, ◌==◌, nat_le, map, if◌then◌else◌, List, [], ◌∷◌, ◌++◌, length, Option, Some, None, Result, Ok, Err, refl, ap, ap₂, sym, ◌∙◌, subst, arith, append_assoc}
use Rattle.std.specs.Prelude.{ℤ, pos}
use Rattle.std.specs.Ordering.{int_eq}
use Rattle.std.specs.List.{list_all}
use Rattle.bool_diagrams.specs.declared.cube.Cell.{Cell}
use Rattle.call_components.specs.Partition.{Partition}
use Rattle.certificate.specs.declared.pred_text.PredText.{PredText}
use Rattle.certificate.specs.declared.fact.Fact.{Fact}
use Rattle.certificate.specs.declared.fact.Fact.TheVariants as fact
use Rattle.certificate.specs.declared.norm.CertNorm.{CertNorm}
use Rattle.cti_terms.specs.declared.atom_list.Atom.{Atom}
use Rattle.cti_terms.specs.Listing.{Listing, numbered}
use Rattle.linear_rows.specs.declared.multipliers.Multipliers.{Multipliers}
use Rattle.linear_rows.specs.declared.point.Point.{Point}
use Rattle.linear_rows.specs.declared.row.Rows.{Rows}
use Rattle.number_tests.specs.declared.level_part.LevelPart.{LevelPart}
use Rattle.number_tests.specs.declared.refutation.Refutation.{Refutation}
use Rattle.fact_reading.specs.declared.stop.StructureReason.{StructureReason}
use Rattle.fact_reading.specs.declared.stop.StructureReason.TheVariants as reason
use Rattle.cert_structure.specs.declared.parts.Parts.{Parts}
use Rattle.cert_structure.specs.declared.points.FirstPoint.{FirstPoint}
use Rattle.cert_structure.specs.Order.{pred_text}
use Rattle.cert_structure.specs.Shape.{is_pair, arity_in, head_of, body_of, vars_of, rows_of, rows_of_atoms, items_of, is_recursive, first_of, proofs_of_call}
use Rattle.cert_structure.specs.StructureFault.{HaveOnePlace}
use Rattle.cert_structure.specs.StructureFault as place
use Rattle.cert_structure.specs.Walk.{kept, at_place, same_pred, is_mode, is_entry, are_entries, is_amount, are_amounts, is_before, cell_read, pair_end, pair_point, point_read, row_read, multipliers_read, level_read, paired, take_modes, take_row, take_proof, take_ground, take_level, take_fall, take_pre, take_refuted, take_point, take_second, read_second, read_point, read_points, points_read, read_group, is_open, read_refutation, read_modes, read_rows, read_proofs, read_grounds, read_level, read_levels, read_call, read_calls, read_falls, read_cubes, read_pre, take_norm, named_norm, by_version, read_head, read_sections, read_parts, cubes_by, grounds_by, modes_by, pre_by, proofs_by, rows_by, shared_ground, shared_modes, shared_pre, shared_proof, shared_refuted, shared_row, group_by, refutation_by}
use Rattle.fact_reading.specs.Walk.{◌>>=◌, Wrong, Read, Taken, result_map, wrong_at, with_first, item_of, go_on, read_next, read_many, read_each}
use Rattle.cert_structure.proofs.KindLemmas.{IsVersion, split_version}
use Rattle.fact_reading.proofs.SectionLemmas.{same_some, same_ok, err_ok, bound, mapped}

pub same_err : {A : Type 0} (v w : Wrong) → ◌≡◌ {A = Result A Wrong} (Err v) (Err w) → v ≡ w
same_err v w e = cc

-- one of two steps failed
pub bound_err : {A B : Type 0} {C : Type 0} (f : A → Result B Wrong) (o : Result A Wrong) (w : Wrong) → (o >>= f) ≡ Err w
    → (o ≡ Err w → C) → ((x : A) → o ≡ Ok x → f x ≡ Err w → C) → C
bound_err {B = B} f (Err v) w e k l = k (ap (λ z. Err z) (same_err {A = B} v w e))
bound_err f (Ok x) w e k l = l x refl e

pub mapped_err : {A B : Type 0} (f : A → B) (o : Result A Wrong) (w : Wrong) → result_map f o ≡ Err w → o ≡ Err w
mapped_err {B = B} f (Err v) w e = ap (λ z. Err z) (same_err {A = B} v w e)
mapped_err f (Ok x) w e = err_ok w (f x) (sym e)

-- what may stand in the place of a wrong fact, so that it is wrong for the same reason
abbrev pub MayReplace : StructureReason → Fact → Fact → Type 0
MayReplace reason.Extra f g = HaveOnePlace f g
MayReplace reason.Version f g = f ≡ g
MayReplace reason.Missing f g = f ≡ g
MayReplace reason.Shape f g = f ≡ g

one_place : (why : StructureReason) (f g : Fact) → MayReplace why f g → HaveOnePlace f g
one_place reason.Extra f g h = h
one_place reason.Version f g h = subst (λ z. HaveOnePlace f z) h place.itself
one_place reason.Missing f g h = subst (λ z. HaveOnePlace f z) h place.itself
one_place reason.Shape f g h = subst (λ z. HaveOnePlace f z) h place.itself

-- a value is read up to a fact, whatever comes from there on
pub record After {A : Type 0} (o : List Fact → Read Fact A) (s : List Fact) (x : A) (f : Fact) (t : List Fact) : Type 0 where
  pub front : List Fact
  pub split : s ≡ front ++ f ∷ t
  pub again : (g : Fact) (v : List Fact) → HaveOnePlace f g → o (front ++ g ∷ v) ≡ Ok (x, g ∷ v)

-- reading fails at a fact, whatever comes after it
pub record Fails {A : Type 0} (o : List Fact → Result A Wrong) (s : List Fact) (n : ℕ) (why : StructureReason) : Type 0 where
  pub front : List Fact
  pub wrong : Fact
  pub more : List Fact
  pub split : s ≡ front ++ wrong ∷ more
  pub left : length more ≡ n
  pub again : (g : Fact) (v : List Fact) → MayReplace why wrong g → o (front ++ g ∷ v) ≡ Err (suc (length v), why)

pub record IsLocal {A : Type 0} (o : List Fact → Read Fact A) : Type 0 where
  pub ok : (s t : List Fact) (x : A) (f : Fact) → o s ≡ Ok (x, f ∷ t) → After o s x f t
  pub err : (s : List Fact) (n : ℕ) (why : StructureReason) → o s ≡ Err (suc n, why) → Fails o s n why

-- the first fact is the wrong one
pub here : {A : Type 0} (o : List Fact → Result A Wrong) (c : Fact) (s : List Fact) (r : StructureReason) (n : ℕ) (why : StructureReason)
    → wrong_at {A = A} (c ∷ s) r ≡ Err (suc n, why) → ((g : Fact) (v : List Fact) → MayReplace r c g → o (g ∷ v) ≡ Err (suc (length v), r)) → Fails o (c ∷ s) n why
here {A = A} o c s r n why e again =
    let both : (length (c ∷ s), r) ≡ (suc n, why) = same_err {A = A} _ _ e in
    let count : length (c ∷ s) ≡ suc n = ap (λ z. z.0) both in
    let same : r ≡ why = ap (λ z. z.1) both in
    subst (λ z. Fails o (c ∷ s) n z) same (record { front = []; wrong = c; more = s; split = refl; left = omega (arith, count); again = again })

local_ok : {A : Type 0} (x : A) → IsLocal (λ s. Ok (x, s))
local_ok {A = A} x = record { ok = found; err = λ s n why e. err_ok (suc n, why) (x, s) (sym e) }
  where
    found : (s t : List Fact) (y : A) (f : Fact) → ◌≡◌ {A = Read Fact A} (Ok (x, s)) (Ok (y, f ∷ t)) → After (λ s. Ok (x, s)) s y f t
    found s t y f e =
        let both : (x, s) ≡ (y, f ∷ t) = same_ok _ _ e in
        record { front = []; split = ap (λ z. z.1) both; again = λ g v h. ap (λ z. Ok (z, g ∷ v)) (ap (λ z. z.0) both) }

module _ {A B : Type 0} (o : List Fact → Read Fact A) (k : A → List Fact → Read Fact B) (h : IsLocal o) (j : (x : A) → IsLocal (k x)) where
  join_ok : (s t : List Fact) (y : B) (f : Fact) (p : A × List Fact) → o s ≡ Ok p → (front : List Fact) → p.1 ≡ front ++ f ∷ t
      → ((g : Fact) (v : List Fact) → HaveOnePlace f g → k p.0 (front ++ g ∷ v) ≡ Ok (y, g ∷ v)) → After (λ s. o s >>= λ p. k p.0 p.1) s y f t
  join_ok s t y f p first [] split again =
      let a = h.ok s t p.0 f (first ∙ ap (λ z. Ok (p.0, z)) split) in
      record { front = a.front; split = a.split; again = λ g v e. ap (λ z. z >>= λ p. k p.0 p.1) (a.again g v e) ∙ again g v e }
  join_ok s t y f p first (c ∷ cs) split again =
      let a = h.ok s (cs ++ f ∷ t) p.0 c (first ∙ ap (λ z. Ok (p.0, z)) split) in
      record {
        front = a.front ++ c ∷ cs;
        split = a.split ∙ sym (append_assoc a.front (c ∷ cs) (f ∷ t));
        again = λ g v e. ap (λ z. o z >>= λ p. k p.0 p.1) (append_assoc a.front (c ∷ cs) (g ∷ v)) ∙ ap (λ z. z >>= λ p. k p.0 p.1) (a.again c (cs ++ g ∷ v) place.itself) ∙ again g v e;
      }

  join_err : (s : List Fact) (n : ℕ) (why : StructureReason) (p : A × List Fact) → o s ≡ Ok p → (front : List Fact) (f : Fact) (t : List Fact) → p.1 ≡ front ++ f ∷ t → length t ≡ n
      → ((g : Fact) (v : List Fact) → MayReplace why f g → k p.0 (front ++ g ∷ v) ≡ Err (suc (length v), why)) → Fails (λ s. o s >>= λ p. k p.0 p.1) s n why
  join_err s n why p first [] f t split left again =
      let a = h.ok s t p.0 f (first ∙ ap (λ z. Ok (p.0, z)) split) in
      record { front = a.front; wrong = f; more = t; split = a.split; left = left; again = λ g v e. ap (λ z. z >>= λ p. k p.0 p.1) (a.again g v (one_place why f g e)) ∙ again g v e }
  join_err s n why p first (c ∷ cs) f t split left again =
      let a = h.ok s (cs ++ f ∷ t) p.0 c (first ∙ ap (λ z. Ok (p.0, z)) split) in
      record {
        front = a.front ++ c ∷ cs;
        wrong = f;
        more = t;
        split = a.split ∙ sym (append_assoc a.front (c ∷ cs) (f ∷ t));
        left = left;
        again = λ g v e. ap (λ z. o z >>= λ p. k p.0 p.1) (append_assoc a.front (c ∷ cs) (g ∷ v)) ∙ ap (λ z. z >>= λ p. k p.0 p.1) (a.again c (cs ++ g ∷ v) place.itself) ∙ again g v e;
      }

  found : (s t : List Fact) (y : B) (f : Fact) → (o s >>= λ p. k p.0 p.1) ≡ Ok (y, f ∷ t) → After (λ s. o s >>= λ p. k p.0 p.1) s y f t
  found s t y f e =
      bound (λ p. k p.0 p.1) (o s) (y, f ∷ t) e λ p first more.
      let a = (j p.0).ok p.1 t y f more in
      join_ok s t y f p first a.front a.split a.again

  failed : (s : List Fact) (n : ℕ) (why : StructureReason) → (o s >>= λ p. k p.0 p.1) ≡ Err (suc n, why) → Fails (λ s. o s >>= λ p. k p.0 p.1) s n why
  failed s n why e =
      bound_err (λ p. k p.0 p.1) (o s) (suc n, why) e
      (λ first.
      let a = h.err s n why first in
      record { front = a.front; wrong = a.wrong; more = a.more; split = a.split; left = a.left; again = λ g v m. ap (λ z. z >>= λ p. k p.0 p.1) (a.again g v m) })
      (λ p first more.
      let a = (j p.0).err p.1 n why more in
      join_err s n why p first a.front a.wrong a.more a.split a.left a.again)

  pub local_bind : IsLocal (λ s. o s >>= λ p. k p.0 p.1)
  local_bind = record { ok = found; err = failed }

-- a value made of the one that was read
abbrev pub with_made : {A B : Type 0} → (A → B) → A × List Fact → B × List Fact
with_made c p = (c p.0, p.1)

local_map : {A B : Type 0} (c : A → B) (o : List Fact → Read Fact A) → IsLocal o → IsLocal (λ s. result_map (with_made c) (o s))
local_map {A = A} {B = B} c o h = record { ok = found; err = failed }
  where
    found : (s t : List Fact) (y : B) (f : Fact) → result_map (with_made c) (o s) ≡ Ok (y, f ∷ t) → After (λ s. result_map (with_made c) (o s)) s y f t
    found s t y f e =
        mapped (with_made c) (o s) (y, f ∷ t) e λ q read both.
        let first : c q.0 ≡ y = ap (λ z. z.0) both in
        let rest : q.1 ≡ f ∷ t = ap (λ z. z.1) both in
        let a = h.ok s t q.0 f (read ∙ ap (λ z. Ok (q.0, z)) rest) in
        record { front = a.front; split = a.split; again = λ g v m. ap (λ z. result_map (with_made c) z) (a.again g v m) ∙ ap (λ z. Ok (z, g ∷ v)) first }

    failed : (s : List Fact) (n : ℕ) (why : StructureReason) → result_map (with_made c) (o s) ≡ Err (suc n, why) → Fails (λ s. result_map (with_made c) (o s)) s n why
    failed s n why e =
        let a = h.err s n why (mapped_err (with_made c) (o s) (suc n, why) e) in
        record { front = a.front; wrong = a.wrong; more = a.more; split = a.split; left = a.left; again = λ g v m. ap (λ z. result_map (with_made c) z) (a.again g v m) }

local_if : {A : Type 0} (b : Bool) (o q : List Fact → Read Fact A) → IsLocal o → IsLocal q → IsLocal (λ s. if b then o s else q s)
local_if true o q h j = h
local_if false o q h j = j

-- what is not a reader's fact is not with other contents either
abbrev Stays : {A : Type 0} → (ℕ → Fact → Taken A) → Type 0
Stays taken = (i : ℕ) (f g : Fact) → HaveOnePlace f g → taken i f ≡ Some None → taken i g ≡ Some None

pub same_head : (f g : Fact) (s t : List Fact) → f ∷ s ≡ g ∷ t → f ≡ g
same_head f g s t e = cc

module _ {A : Type 0} (taken : ℕ → Fact → Taken A) (stays : Stays taken) where
  pub local_next : (i : ℕ) → IsLocal (read_next taken i)
  local_next i = record { ok = found; err = failed }
    where
      found : (s t : List Fact) (x : A) (f : Fact) → read_next taken i s ≡ Ok (x, f ∷ t) → After (read_next taken i) s x f t
      found [] t x f e = err_ok _ (x, f ∷ t) e
      found (c ∷ s) t x f e = go (taken i c) refl e
        where
          go : (o : Taken A) → taken i c ≡ o → item_of c s o ≡ Ok (x, f ∷ t) → After (read_next taken i) (c ∷ s) x f t
          go None read same = err_ok _ (x, f ∷ t) same
          go (Some None) read same = err_ok _ (x, f ∷ t) same
          go (Some (Some y)) read same =
              let both : (y, s) ≡ (x, f ∷ t) = same_ok _ _ same in
              let first : y ≡ x = ap (λ z. z.0) both in
              let rest : s ≡ f ∷ t = ap (λ z. z.1) both in
              record { front = c ∷ []; split = ap (λ z. c ∷ z) rest; again = λ g v m. ap (λ z. item_of c (g ∷ v) z) read ∙ ap (λ z. Ok (z, g ∷ v)) first }

      failed : (s : List Fact) (n : ℕ) (why : StructureReason) → read_next taken i s ≡ Err (suc n, why) → Fails (read_next taken i) s n why
      failed [] n why e =
          let both : (0, reason.Missing) ≡ (suc n, why) = same_err {A = A × List Fact} _ _ e in
          let count : 0 ≡ suc n = ap (λ z. z.0) both in
          absurd (omega (arith, count))
      failed (c ∷ s) n why e = go (taken i c) refl e
        where
          go : (o : Taken A) → taken i c ≡ o → item_of c s o ≡ Err (suc n, why) → Fails (read_next taken i) (c ∷ s) n why
          go None read same = here (read_next taken i) c s reason.Shape n why same (λ g v m. ap (λ z. item_of g v z) (ap (λ z. taken i z) (sym m) ∙ read))
          go (Some None) read same = here (read_next taken i) c s reason.Extra n why same (λ g v m. ap (λ z. item_of g v z) (stays i c g m read))
          go (Some (Some y)) read same = err_ok (suc n, why) (y, s) (sym same)

  many_found : (i : ℕ) (s t : List Fact) (xs : List A) (f : Fact) → read_many taken i s ≡ Ok (xs, f ∷ t) → After (read_many taken i) s xs f t
  unfolding read_many
  many_found i [] t xs f e =
      let both : ([], []) ≡ (xs, f ∷ t) = same_ok _ _ e in
      let rest : [] ≡ f ∷ t = ap (λ z. z.1) both in
      absurd (cc rest)
  many_found i (c ∷ s) t xs f e = go (many_found (suc i) s t) (taken i c) refl e
    where
      go : ((ys : List A) (f : Fact) → read_many taken (suc i) s ≡ Ok (ys, f ∷ t) → After (read_many taken (suc i)) s ys f t)
          → (o : Taken A) → taken i c ≡ o → go_on (read_many taken (suc i) s) c s o ≡ Ok (xs, f ∷ t) → After (read_many taken i) (c ∷ s) xs f t
      go more None read same = err_ok _ (xs, f ∷ t) same
      go more (Some None) read same =
          let both : ([], c ∷ s) ≡ (xs, f ∷ t) = same_ok _ _ same in
          let first : [] ≡ xs = ap (λ z. z.0) both in
          let rest : c ∷ s ≡ f ∷ t = ap (λ z. z.1) both in
          let own : c ≡ f = same_head c f s t rest in
          record {
            front = [];
            split = rest;
            again = λ g v m. ap (λ z. go_on (read_many taken (suc i) v) g v z) (stays i f g m (ap (λ z. taken i z) (sym own) ∙ read)) ∙ ap (λ z. Ok (z, g ∷ v)) first;
          }
      go more (Some (Some y)) read same =
          mapped (with_first y) (read_many taken (suc i) s) (xs, f ∷ t) same λ q inner both.
          let first : y ∷ q.0 ≡ xs = ap (λ z. z.0) both in
          let rest : q.1 ≡ f ∷ t = ap (λ z. z.1) both in
          let a = more q.0 f (inner ∙ ap (λ z. Ok (q.0, z)) rest) in
          record {
            front = c ∷ a.front;
            split = ap (λ z. c ∷ z) a.split;
            again = λ g v m. ap (λ z. go_on (read_many taken (suc i) (a.front ++ g ∷ v)) c (a.front ++ g ∷ v) z) read ∙ ap (λ z. result_map (with_first y) z) (a.again g v m) ∙ ap (λ z. Ok (z, g ∷ v)) first;
          }

  many_failed : (i : ℕ) (s : List Fact) (n : ℕ) (why : StructureReason) → read_many taken i s ≡ Err (suc n, why) → Fails (read_many taken i) s n why
  unfolding read_many
  many_failed i [] n why e = err_ok (suc n, why) ([], []) (sym e)
  many_failed i (c ∷ s) n why e = go (many_failed (suc i) s n why) (taken i c) refl e
    where
      go : (read_many taken (suc i) s ≡ Err (suc n, why) → Fails (read_many taken (suc i)) s n why)
          → (o : Taken A) → taken i c ≡ o → go_on (read_many taken (suc i) s) c s o ≡ Err (suc n, why) → Fails (read_many taken i) (c ∷ s) n why
      go more None read same = here (read_many taken i) c s reason.Shape n why same (λ g v m. ap (λ z. go_on (read_many taken (suc i) v) g v z) (ap (λ z. taken i z) (sym m) ∙ read))
      go more (Some None) read same = err_ok (suc n, why) ([], c ∷ s) (sym same)
      go more (Some (Some y)) read same =
          let a = more (mapped_err (with_first y) (read_many taken (suc i) s) (suc n, why) same) in
          record {
            front = c ∷ a.front;
            wrong = a.wrong;
            more = a.more;
            split = ap (λ z. c ∷ z) a.split;
            left = a.left;
            again = λ g v m. ap (λ z. go_on (read_many taken (suc i) (a.front ++ g ∷ v)) c (a.front ++ g ∷ v) z) read ∙ ap (λ z. result_map (with_first y) z) (a.again g v m);
          }

  pub local_many : (i : ℕ) → IsLocal (read_many taken i)
  local_many i = record { ok = many_found i; err = many_failed i }

local_each : {A : Type 0} (item : ℕ → List Fact → Read Fact A) → ((i : ℕ) → IsLocal (item i)) → (i n : ℕ) → IsLocal (read_each item i n)
unfolding read_each
local_each item h i zero = local_ok []
local_each item h i (suc n) =
    local_bind (item i) (λ x s. result_map (with_first x) (read_each item (suc i) n s)) (h i) (λ x. local_map (λ ys. x ∷ ys) (read_each item (suc i) n) (local_each item h (suc i) n))

-- each kind of fact
never : {A : Type 0} (right : Bool) (x : A) → kept right x ≡ Some None → ⊥
never true x e = let bad : Some x ≡ None = same_some _ _ e in cc bad
never false x e = cc e

elsewhere : {A : Type 0} (at : Bool) (o q : Taken A) → (o ≡ Some None → ⊥) → at_place at o ≡ Some None → at_place at q ≡ Some None
elsewhere true o q h e = absurd (h e)
elsewhere false o q h e = refl

kept_elsewhere : {A : Type 0} (at right good : Bool) (x y : A) → at_place at (kept right x) ≡ Some None → at_place at (kept good y) ≡ Some None
kept_elsewhere at right good x y e = elsewhere at (kept right x) (kept good y) (never right x) e

row_never : (arity : ℕ) (xs : List ℤ) → row_read arity xs ≡ Some None → ⊥
row_never arity [] e = cc e
row_never arity (b ∷ bs) e = never ((length bs == arity) && (is_entry b && are_entries bs)) (record { constant = b; coeffs = bs }) e

paired_never : (k j : ℕ) (o : Taken Point) → (o ≡ Some None → ⊥) → paired k j o ≡ Some None → ⊥
paired_never k j None h e = cc e
paired_never k j (Some None) h e = h refl
paired_never k j (Some (Some x)) h e = let bad : Some (record { pair = record { clause = k; call = j }; point = x }) ≡ None = same_some _ _ e in cc bad

point_never : (vars : ℕ) (t : ℤ) (xs : List ℤ) → point_read vars t xs ≡ Some None → ⊥
point_never vars t xs e = never ((length xs == vars) && (is_amount t && are_amounts xs)) (record { t = t; w = xs }) e

second_never : (b : Bool) (vars : ℕ) (t : ℤ) (xs : List ℤ) → (if b then None else point_read vars t xs) ≡ Some None → ⊥
second_never true vars t xs e = cc e
second_never false vars t xs e = point_never vars t xs e

modes_stay : (pred : PredText) → Stays (take_modes pred)
unfolding shared_modes
modes_stay pred i _ _ (place.modes {q = q} {xs = xs} {ys = ys}) e = kept_elsewhere (same_pred q pred) (list_all (is_mode pred.arity 0) xs) (list_all (is_mode pred.arity 0) ys) xs ys e
modes_stay pred i _ _ h e = e

row_stay : (pred : PredText) → Stays (take_row pred)
unfolding shared_row
row_stay pred i _ _ (place.row {q = q} {i = j} {xs = xs} {ys = ys}) e = elsewhere (same_pred q pred && (j == suc i)) (row_read pred.arity xs) (row_read pred.arity ys) (row_never pred.arity xs) e
row_stay pred i _ _ h e = e

many_never : (rows : ℕ) (s : ℤ) (xs : List ℤ) → multipliers_read rows s xs ≡ Some None → ⊥
many_never rows s xs e = never ((length xs == rows) && (is_amount s && are_amounts xs)) (record { scale = s; list = xs }) e

proof_stay : (k rows : ℕ) → Stays (take_proof k rows)
unfolding shared_proof
proof_stay k rows i _ _ (place.proof {k = c} {i = j} {s = s} {t = t} {xs = xs} {ys = ys}) e =
    elsewhere ((c == suc k) && (j == suc i)) (multipliers_read rows s xs) (multipliers_read rows t ys) (many_never rows s xs) e
proof_stay k rows i _ _ h e = e

ground_stay : (pred : PredText) → Stays (take_ground pred)
unfolding shared_ground
ground_stay pred i _ _ (place.grounds {q = q} {i = j} {xs = xs} {ys = ys}) e =
    kept_elsewhere (same_pred q pred && (j == suc i)) (length xs == pred.arity) (length ys == pred.arity) (map cell_read xs) (map cell_read ys) e
ground_stay pred i _ _ h e = e

level_stay : (pred : PredText) → Stays (take_level pred)
unfolding take_level
level_stay pred i _ _ (place.level {q = q} {m = m} {xs = xs} {ys = ys} {s = s} {t = t}) e =
    elsewhere (same_pred q pred && (m == suc i)) (level_read pred.arity xs s) (level_read pred.arity ys t)
    (never ((length xs == pred.arity) && (are_amounts xs && is_amount s)) (record { coeffs = xs; offset = s })) e
level_stay pred i _ _ h e = e

fall_stay : (k j rows : ℕ) → Stays (take_fall k j rows)
unfolding take_fall
fall_stay k j rows m _ _ (place.fall {k = c} {j = b} {m = n} {s = s} {t = t} {xs = xs} {ys = ys}) e =
    elsewhere ((c == suc k) && ((b == suc j) && (n == suc m))) (multipliers_read rows s xs) (multipliers_read rows t ys) (many_never rows s xs) e
fall_stay k j rows m _ _ h e = e

pre_stay : (pred : PredText) (m : ℕ) → Stays (take_pre pred m)
unfolding shared_pre
pre_stay pred m i _ _ (place.pre {q = q} {m = n} {i = j} {xs = xs} {ys = ys}) e =
    kept_elsewhere (same_pred q pred && ((n == suc m) && (j == suc i))) (length xs == pred.arity) (length ys == pred.arity) (map cell_read xs) (map cell_read ys) e
pre_stay pred m i _ _ h e = e

refuted_stay : (pred : PredText) → Stays (take_refuted pred)
unfolding shared_refuted
refuted_stay pred i _ _ (place.refuted {q = q} {m = m} {n = n}) e = kept_elsewhere (same_pred q pred) (nat_le 1 m) (nat_le 1 n) m n e
refuted_stay pred i _ _ h e = e

point_stay : (p : Listing) (comps : Partition) (a : ℕ) (last : ℕ × ℕ) → Stays (take_point p comps a last)
unfolding take_point
point_stay p comps a last i _ _ (place.point {k = k} {j = j} {s = s} {t = t} {xs = xs} {ys = ys}) e =
    elsewhere (is_pair p comps a k j && is_before last (k, j)) (paired k j (point_read (vars_of (numbered p.clauses k)) s xs)) (paired k j (point_read (vars_of (numbered p.clauses k)) t ys))
    (paired_never k j (point_read (vars_of (numbered p.clauses k)) s xs) (point_never (vars_of (numbered p.clauses k)) s xs)) e
point_stay p comps a last i _ _ h e = e

second_stay : (pair : ℕ × ℕ) (vars : ℕ) → Stays (take_second pair vars)
unfolding take_second
second_stay pair vars i _ _ (place.second {k = k} {j = j} {s = s} {t = t} {xs = xs} {ys = ys}) e =
    elsewhere ((k == pair.0) && (j == pair.1)) (if int_eq s (pos 0) then None else point_read vars s xs) (if int_eq t (pos 0) then None else point_read vars t ys) (second_never (int_eq s (pos 0)) vars s xs) e
second_stay pair vars i _ _ h e = e

-- all readers
module _ (p : Listing) (comps : Partition) (a : ℕ) where
  local_second : (x : FirstPoint) → IsLocal (read_second p x)
  unfolding read_second
  local_second x =
      local_if (int_eq x.point.t (pos 0)) (λ s. result_map (λ y. (pair_point x (Some y.0), y.1)) (read_next (take_second (pair_end x.pair) (vars_of (numbered p.clauses x.pair.clause))) 0 s)) (λ s. Ok (pair_point x None, s))
      (local_map (λ y. pair_point x (Some y)) (read_next (take_second (pair_end x.pair) (vars_of (numbered p.clauses x.pair.clause))) 0)
      (local_next (take_second (pair_end x.pair) (vars_of (numbered p.clauses x.pair.clause))) (second_stay (pair_end x.pair) (vars_of (numbered p.clauses x.pair.clause))) 0))
      (local_ok (pair_point x None))

  local_point : (last : ℕ × ℕ) → IsLocal (read_point p comps a last)
  unfolding read_point
  local_point last = local_bind (read_next (take_point p comps a last) 0) (read_second p) (local_next (take_point p comps a last) (point_stay p comps a last) 0) local_second

  local_points : (last : ℕ × ℕ) (n : ℕ) → IsLocal (read_points (read_point p comps a) last n)
  unfolding read_points
  local_points last zero = local_ok []
  local_points last (suc n) =
      local_bind (read_point p comps a last) (λ x s. result_map (with_first x) (read_points (read_point p comps a) (x.clause, x.call) n s)) (local_point last)
      (λ x. local_map (λ ys. x ∷ ys) (read_points (read_point p comps a) (x.clause, x.call) n) (local_points (x.clause, x.call) n))

module _ (p : Listing) (names : List (List ℕ)) (comps : Partition) (a : ℕ) where
  local_group : IsLocal (read_group p names comps a)
  unfolding group_by
  local_group = record { ok = found; err = failed }
    where
      found : (s t : List Fact) (x : Option Refutation) (f : Fact) → read_group p names comps a s ≡ Ok (x, f ∷ t) → After (read_group p names comps a) s x f t
      found [] t x f e =
          let both : (None, []) ≡ (x, f ∷ t) = same_ok _ _ e in
          let rest : [] ≡ f ∷ t = ap (λ z. z.1) both in
          absurd (cc rest)
      found (c ∷ s) t x f e = go (take_refuted (pred_text p names a) 0 c) refl e
        where
          go : (o : Taken ℕ) → take_refuted (pred_text p names a) 0 c ≡ o → points_read (λ n. read_points (read_point p comps a) (0, 0) n s) c s o ≡ Ok (x, f ∷ t) → After (read_group p names comps a) (c ∷ s) x f t
          go None read same = err_ok _ (x, f ∷ t) same
          go (Some None) read same =
              let both : (None, c ∷ s) ≡ (x, f ∷ t) = same_ok _ _ same in
              let first : None ≡ x = ap (λ z. z.0) both in
              let rest : c ∷ s ≡ f ∷ t = ap (λ z. z.1) both in
              let own : c ≡ f = same_head c f s t rest in
              record {
                front = [];
                split = rest;
                again = λ g v m. ap (λ z. points_read (λ n. read_points (read_point p comps a) (0, 0) n v) g v z) (refuted_stay (pred_text p names a) 0 f g m (ap (λ z. take_refuted (pred_text p names a) 0 z) (sym own) ∙ read))
                    ∙ ap (λ z. Ok (z, g ∷ v)) first;
              }
          go (Some (Some n)) read same =
              mapped (λ q. (Some (record { points = q.0 }), q.1)) (read_points (read_point p comps a) (0, 0) n s) (x, f ∷ t) same λ q inner both.
              let first : Some (record { points = q.0 }) ≡ x = ap (λ z. z.0) both in
              let rest : q.1 ≡ f ∷ t = ap (λ z. z.1) both in
              let b = (local_points p comps a (0, 0) n).ok s t q.0 f (inner ∙ ap (λ z. Ok (q.0, z)) rest) in
              record {
                front = c ∷ b.front;
                split = ap (λ z. c ∷ z) b.split;
                again = λ g v m. ap (λ z. points_read (λ n. read_points (read_point p comps a) (0, 0) n (b.front ++ g ∷ v)) c (b.front ++ g ∷ v) z) read
                    ∙ ap (λ z. result_map (λ q. (Some (record { points = q.0 }), q.1)) z) (b.again g v m) ∙ ap (λ z. Ok (z, g ∷ v)) first;
              }

      failed : (s : List Fact) (n : ℕ) (why : StructureReason) → read_group p names comps a s ≡ Err (suc n, why) → Fails (read_group p names comps a) s n why
      failed [] n why e = err_ok (suc n, why) (None, []) (sym e)
      failed (c ∷ s) n why e = go (take_refuted (pred_text p names a) 0 c) refl e
        where
          go : (o : Taken ℕ) → take_refuted (pred_text p names a) 0 c ≡ o → points_read (λ n. read_points (read_point p comps a) (0, 0) n s) c s o ≡ Err (suc n, why) → Fails (read_group p names comps a) (c ∷ s) n why
          go None read same =
              here (read_group p names comps a) c s reason.Shape n why same
              (λ g v m. ap (λ z. points_read (λ n. read_points (read_point p comps a) (0, 0) n v) g v z) (ap (λ z. take_refuted (pred_text p names a) 0 z) (sym m) ∙ read))
          go (Some None) read same = err_ok (suc n, why) (None, c ∷ s) (sym same)
          go (Some (Some count)) read same =
              let b = (local_points p comps a (0, 0) count).err s n why (mapped_err (λ q. (Some (record { points = q.0 }), q.1)) (read_points (read_point p comps a) (0, 0) count s) (suc n, why) same) in
              record {
                front = c ∷ b.front;
                wrong = b.wrong;
                more = b.more;
                split = ap (λ z. c ∷ z) b.split;
                left = b.left;
                again = λ g v m. ap (λ z. points_read (λ n. read_points (read_point p comps a) (0, 0) n (b.front ++ g ∷ v)) c (b.front ++ g ∷ v) z) read
                    ∙ ap (λ z. result_map (λ q. (Some (record { points = q.0 }), q.1)) z) (b.again g v m);
              }

  local_refutation : (levels : List (List LevelPart)) → IsLocal (read_refutation p names comps levels a)
  unfolding refutation_by
  local_refutation levels = local_if (is_open comps levels a) (read_group p names comps a) (λ s. Ok (None, s)) local_group (local_ok None)

module _ (p : Listing) (names : List (List ℕ)) where
  local_modes : (a : ℕ) → IsLocal (read_modes p names a)
  unfolding modes_by
  local_modes a = local_next (take_modes (pred_text p names a)) (modes_stay (pred_text p names a)) 0

  local_rows : (a : ℕ) → IsLocal (read_rows p names a)
  unfolding rows_by
  local_rows a = local_map (λ xs. record { width = arity_in p a; list = xs }) (read_many (take_row (pred_text p names a)) 0) (local_many (take_row (pred_text p names a)) (row_stay (pred_text p names a)) 0)

  local_proofs : (rows : List Rows) (k : ℕ) → IsLocal (read_proofs p rows k)
  unfolding proofs_by
  local_proofs rows k =
      local_each (read_next (take_proof k (rows_of_atoms rows (body_of p k)))) (local_next (take_proof k (rows_of_atoms rows (body_of p k))) (proof_stay k (rows_of_atoms rows (body_of p k)))) 0 (rows_of rows (head_of p k))

  local_grounds : (a : ℕ) → IsLocal (read_grounds p names a)
  unfolding grounds_by
  local_grounds a = local_many (take_ground (pred_text p names a)) (ground_stay (pred_text p names a)) 0

  local_level : (comps : Partition) (earlier : List (List LevelPart)) (a : ℕ) → IsLocal (read_level p names comps earlier a)
  unfolding read_level
  local_level comps earlier a =
      local_if (is_recursive comps a)
      (λ s. if first_of comps a == a then read_many (take_level (pred_text p names a)) 0 s else read_each (read_next (take_level (pred_text p names a))) 0 (length (items_of earlier (first_of comps a))) s)
      (λ s. read_each (read_next (take_level (pred_text p names a))) 0 1 s)
      (local_if (first_of comps a == a) (read_many (take_level (pred_text p names a)) 0) (read_each (read_next (take_level (pred_text p names a))) 0 (length (items_of earlier (first_of comps a))))
      (local_many (take_level (pred_text p names a)) (level_stay (pred_text p names a)) 0) (counted (length (items_of earlier (first_of comps a)))))
      (counted 1)
    where
      counted : (n : ℕ) → IsLocal (read_each (read_next (take_level (pred_text p names a))) 0 n)
      counted n = local_each (read_next (take_level (pred_text p names a))) (local_next (take_level (pred_text p names a)) (level_stay (pred_text p names a))) 0 n

  local_levels : (comps : Partition) (earlier : List (List LevelPart)) (a n : ℕ) → IsLocal (read_levels p names comps earlier a n)
  unfolding read_levels
  local_levels comps earlier a zero = local_ok earlier
  local_levels comps earlier a (suc n) =
      local_bind (read_level p names comps earlier a) (λ x s. read_levels p names comps (earlier ++ x ∷ []) (suc a) n s) (local_level comps earlier a)
      (λ x. local_levels comps (earlier ++ x ∷ []) (suc a) n)

  local_cubes : (levels : List (List LevelPart)) (a : ℕ) → IsLocal (read_pre p names levels a)
  unfolding pre_by cubes_by
  local_cubes levels a = local_each (read_cubes p names a) one 0 (length (items_of levels a))
    where
      one : (m : ℕ) → IsLocal (read_cubes p names a m)
      one m = local_many (take_pre (pred_text p names a) m) (pre_stay (pred_text p names a) m) 0

local_calls : (comps : Partition) (rows : List Rows) (levels : List (List LevelPart)) (head k j before : ℕ) (body : List Atom) → IsLocal (read_calls comps rows levels head k j before body)
unfolding read_calls read_call
local_calls comps rows levels head k j before [] = local_ok []
local_calls comps rows levels head k j before (b ∷ bs) =
    local_bind (read_call comps levels head k j before (Some b)) (λ x s. result_map (with_first x) (read_calls comps rows levels head k (suc j) (before + rows_of rows b.pred.0) bs s))
    (local_each (read_next (take_fall k j before)) (local_next (take_fall k j before) (fall_stay k j before)) 0 (proofs_of_call comps levels head (Some b)))
    (λ x. local_map (λ ys. x ∷ ys) (read_calls comps rows levels head k (suc j) (before + rows_of rows b.pred.0) bs) (local_calls comps rows levels head k (suc j) (before + rows_of rows b.pred.0) bs))

local_falls : (p : Listing) (comps : Partition) (rows : List Rows) (levels : List (List LevelPart)) (k : ℕ) → IsLocal (read_falls p comps rows levels k)
unfolding read_falls
local_falls p comps rows levels k = local_calls comps rows levels (head_of p k) k 0 0 (body_of p k)

-- the head
norm_stay : Stays take_norm
unfolding take_norm
norm_stay i _ _ (place.norm {m = m}) e = let bad : Some m ≡ None = same_some _ _ e in cc bad
norm_stay i _ _ h e = e

local_norm : IsLocal named_norm
local_norm = local_map (λ norm. Some norm) (read_next take_norm 0) (local_next take_norm norm_stay 0)

no_version : (v : ℤ) (one two : Bool) → by_version v one two [] ≡ wrong_at (fact.Cti v ∷ []) reason.Extra → ⊥
no_version v true two e = err_ok _ (None, []) (sym e)
no_version v false true e =
    let both : (0, reason.Missing) ≡ (1, reason.Extra) = same_err {A = Option CertNorm × List Fact} _ _ e in
    let whys : reason.Missing ≡ reason.Extra = ap (λ z. z.1) both in
    cc whys
no_version v false false e =
    let both : (1, reason.Version) ≡ (1, reason.Extra) = same_err {A = Option CertNorm × List Fact} _ _ e in
    let whys : reason.Version ≡ reason.Extra = ap (λ z. z.1) both in
    cc whys

version_stays : {f g : Fact} → HaveOnePlace f g → ((s : List Fact) → read_head (f ∷ s) ≡ wrong_at (f ∷ s) reason.Extra) → (s : List Fact) → read_head (g ∷ s) ≡ wrong_at (g ∷ s) reason.Extra
unfolding read_head
version_stays place.itself h s = h s
version_stays (place.version {v = v}) h s = absurd (no_version v (int_eq v (pos 1)) (int_eq v (pos 2)) (h []))
version_stays _ h s = refl

version_found : (v : ℤ) (s t : List Fact) (x : Option CertNorm) (f : Fact) → read_head (fact.Cti v ∷ s) ≡ Ok (x, f ∷ t) → After read_head (fact.Cti v ∷ s) x f t
unfolding read_head
version_found v s t x f e = go (int_eq v (pos 1)) (int_eq v (pos 2)) refl refl e
  where
    go : (one two : Bool) → int_eq v (pos 1) ≡ one → int_eq v (pos 2) ≡ two → by_version v one two s ≡ Ok (x, f ∷ t) → After read_head (fact.Cti v ∷ s) x f t
    go true two is also same =
        let both : (None, s) ≡ (x, f ∷ t) = same_ok _ _ same in
        let first : None ≡ x = ap (λ z. z.0) both in
        let rest : s ≡ f ∷ t = ap (λ z. z.1) both in
        record {
          front = fact.Cti v ∷ [];
          split = ap (λ z. fact.Cti v ∷ z) rest;
          again = λ g u m. ap (λ b. by_version v b (int_eq v (pos 2)) (g ∷ u)) is ∙ ap (λ z. Ok (z, g ∷ u)) first;
        }
    go false true is also same =
        let a = local_norm.ok s t x f same in
        record {
          front = fact.Cti v ∷ a.front;
          split = ap (λ z. fact.Cti v ∷ z) a.split;
          again = λ g u m. ap₂ (λ b c. by_version v b c (a.front ++ g ∷ u)) is also ∙ a.again g u m;
        }
    go false false is also same = err_ok _ (x, f ∷ t) same

version_failed : (v : ℤ) (s : List Fact) (n : ℕ) (why : StructureReason) → read_head (fact.Cti v ∷ s) ≡ Err (suc n, why) → Fails read_head (fact.Cti v ∷ s) n why
unfolding read_head
version_failed v s n why e = go (int_eq v (pos 1)) (int_eq v (pos 2)) refl refl e
  where
    go : (one two : Bool) → int_eq v (pos 1) ≡ one → int_eq v (pos 2) ≡ two → by_version v one two s ≡ Err (suc n, why) → Fails read_head (fact.Cti v ∷ s) n why
    go true two is also same = err_ok (suc n, why) (None, s) (sym same)
    go false true is also same =
        let a = local_norm.err s n why same in
        record {
          front = fact.Cti v ∷ a.front;
          wrong = a.wrong;
          more = a.more;
          split = ap (λ z. fact.Cti v ∷ z) a.split;
          left = a.left;
          again = λ g u m. ap₂ (λ b c. by_version v b c (a.front ++ g ∷ u)) is also ∙ a.again g u m;
        }
    go false false is also same =
        here read_head (fact.Cti v) s reason.Version n why same
        (λ g u m. subst (λ z. read_head (z ∷ u) ≡ Err (suc (length u), reason.Version)) m (ap₂ (λ b c. by_version v b c u) is also))

head_found : (s t : List Fact) (x : Option CertNorm) (f : Fact) → read_head s ≡ Ok (x, f ∷ t) → After read_head s x f t
unfolding read_head
head_found [] t x f e = err_ok _ (x, f ∷ t) e
head_found (c ∷ s) t x f e = go (split_version c)
  where
    go : ((s : List Fact) → read_head (c ∷ s) ≡ wrong_at (c ∷ s) reason.Extra) ⊎ IsVersion c → After read_head (c ∷ s) x f t
    go (inl none) = err_ok _ (x, f ∷ t) (sym (none s) ∙ e)
    go (inr (v, is)) = subst (λ z. After read_head (z ∷ s) x f t) (sym is) (version_found v s t x f (ap (λ z. read_head (z ∷ s)) (sym is) ∙ e))

head_failed : (s : List Fact) (n : ℕ) (why : StructureReason) → read_head s ≡ Err (suc n, why) → Fails read_head s n why
unfolding read_head
head_failed [] n why e =
    let both : (0, reason.Missing) ≡ (suc n, why) = same_err {A = Option CertNorm × List Fact} _ _ e in
    let count : 0 ≡ suc n = ap (λ z. z.0) both in
    absurd (omega (arith, count))
head_failed (c ∷ s) n why e = go (split_version c)
  where
    go : ((s : List Fact) → read_head (c ∷ s) ≡ wrong_at (c ∷ s) reason.Extra) ⊎ IsVersion c → Fails read_head (c ∷ s) n why
    go (inl none) = here read_head c s reason.Extra n why (sym (none s) ∙ e) (λ g v m. version_stays m none v)
    go (inr (v, is)) = subst (λ z. Fails read_head (z ∷ s) n why) (sym is) (version_failed v s n why (ap (λ z. read_head (z ∷ s)) (sym is) ∙ e))

local_head : IsLocal read_head
local_head = record { ok = head_found; err = head_failed }

-- Reading all parts, section by section: what is read of one is given to a function that makes the parts.
abbrev pub Modes : Type 0
Modes = List (List (List ℕ))

abbrev pub Proofs : Type 0
Proofs = List (List Multipliers)

abbrev pub Grounds : Type 0
Grounds = List (List (List Cell))

abbrev pub Levels : Type 0
Levels = List (List LevelPart)

abbrev pub Falls : Type 0
Falls = List (List (List Multipliers))

abbrev pub Cubes : Type 0
Cubes = List (List (List (List Cell)))

abbrev pub Refutations : Type 0
Refutations = List (Option Refutation)

abbrev pub made : Option CertNorm → Modes → List Rows → Proofs → Grounds → Levels → Falls → Cubes → Refutations → Parts
made norm modes rows proofs grounds levels falls cubes refutations =
    record { norm = norm; modes = modes; rows = rows; row_proofs = proofs; grounds = grounds; levels = levels; falls = falls; preconditions = cubes; refutations = refutations }

module _ (p : Listing) (names : List (List ℕ)) (comps : Partition) where
  abbrev pub from_refutations : Levels → (Refutations → Parts) → List Fact → Read Fact Parts
  from_refutations levels make s = read_each (read_refutation p names comps levels) 0 (length p.preds) s >>= λ x. Ok (make x.0, x.1)

  abbrev pub from_cubes : Levels → (Cubes → Refutations → Parts) → List Fact → Read Fact Parts
  from_cubes levels make s = read_each (read_pre p names levels) 0 (length p.preds) s >>= λ x. from_refutations levels (make x.0) x.1

  abbrev pub from_falls : List Rows → Levels → (Falls → Cubes → Refutations → Parts) → List Fact → Read Fact Parts
  from_falls rows levels make s = read_each (read_falls p comps rows levels) 0 (length p.clauses) s >>= λ x. from_cubes levels (make x.0) x.1

  abbrev pub from_levels : List Rows → (Levels → Falls → Cubes → Refutations → Parts) → List Fact → Read Fact Parts
  from_levels rows make s = read_levels p names comps [] 0 (length p.preds) s >>= λ x. from_falls rows x.0 (make x.0) x.1

  abbrev pub from_grounds : List Rows → (Grounds → Levels → Falls → Cubes → Refutations → Parts) → List Fact → Read Fact Parts
  from_grounds rows make s = read_each (read_grounds p names) 0 (length p.preds) s >>= λ x. from_levels rows (make x.0) x.1

  abbrev pub from_proofs : List Rows → (Proofs → Grounds → Levels → Falls → Cubes → Refutations → Parts) → List Fact → Read Fact Parts
  from_proofs rows make s = read_each (read_proofs p rows) 0 (length p.clauses) s >>= λ x. from_grounds rows (make x.0) x.1

  abbrev pub from_rows : (List Rows → Proofs → Grounds → Levels → Falls → Cubes → Refutations → Parts) → List Fact → Read Fact Parts
  from_rows make s = read_each (read_rows p names) 0 (length p.preds) s >>= λ x. from_proofs x.0 (make x.0) x.1

  abbrev pub from_modes : Option CertNorm → List Fact → Read Fact Parts
  from_modes norm s = read_each (read_modes p names) 0 (length p.preds) s >>= λ x. from_rows (made norm x.0) x.1

  pub parts_are : (s : List Fact) → read_parts p names comps s ≡ (read_head s >>= λ x. from_modes x.0 x.1)
  unfolding read_parts read_sections
  parts_are s = refl

  local_from_refutations : (levels : Levels) (make : Refutations → Parts) → IsLocal (from_refutations levels make)
  local_from_refutations levels make =
      local_bind (read_each (read_refutation p names comps levels) 0 (length p.preds)) (λ x s. Ok (make x, s)) (local_each (read_refutation p names comps levels) (λ a. local_refutation p names comps a levels) 0 (length p.preds)) (λ x. local_ok (make x))

  local_from_cubes : (levels : Levels) (make : Cubes → Refutations → Parts) → IsLocal (from_cubes levels make)
  local_from_cubes levels make =
      local_bind (read_each (read_pre p names levels) 0 (length p.preds)) (λ x. from_refutations levels (make x)) (local_each (read_pre p names levels) (local_cubes p names levels) 0 (length p.preds))
      (λ x. local_from_refutations levels (make x))

  local_from_falls : (rows : List Rows) (levels : Levels) (make : Falls → Cubes → Refutations → Parts) → IsLocal (from_falls rows levels make)
  local_from_falls rows levels make =
      local_bind (read_each (read_falls p comps rows levels) 0 (length p.clauses)) (λ x. from_cubes levels (make x)) (local_each (read_falls p comps rows levels) (local_falls p comps rows levels) 0 (length p.clauses))
      (λ x. local_from_cubes levels (make x))

  local_from_levels : (rows : List Rows) (make : Levels → Falls → Cubes → Refutations → Parts) → IsLocal (from_levels rows make)
  local_from_levels rows make =
      local_bind (read_levels p names comps [] 0 (length p.preds)) (λ x. from_falls rows x (make x)) (local_levels p names comps [] 0 (length p.preds)) (λ x. local_from_falls rows x (make x))

  local_from_grounds : (rows : List Rows) (make : Grounds → Levels → Falls → Cubes → Refutations → Parts) → IsLocal (from_grounds rows make)
  local_from_grounds rows make =
      local_bind (read_each (read_grounds p names) 0 (length p.preds)) (λ x. from_levels rows (make x)) (local_each (read_grounds p names) (local_grounds p names) 0 (length p.preds)) (λ x. local_from_levels rows (make x))

  local_from_proofs : (rows : List Rows) (make : Proofs → Grounds → Levels → Falls → Cubes → Refutations → Parts) → IsLocal (from_proofs rows make)
  local_from_proofs rows make =
      local_bind (read_each (read_proofs p rows) 0 (length p.clauses)) (λ x. from_grounds rows (make x)) (local_each (read_proofs p rows) (local_proofs p names rows) 0 (length p.clauses)) (λ x. local_from_grounds rows (make x))

  local_from_rows : (make : List Rows → Proofs → Grounds → Levels → Falls → Cubes → Refutations → Parts) → IsLocal (from_rows make)
  local_from_rows make =
      local_bind (read_each (read_rows p names) 0 (length p.preds)) (λ x. from_proofs x (make x)) (local_each (read_rows p names) (local_rows p names) 0 (length p.preds)) (λ x. local_from_proofs x (make x))

  local_from_modes : (norm : Option CertNorm) → IsLocal (from_modes norm)
  local_from_modes norm =
      local_bind (read_each (read_modes p names) 0 (length p.preds)) (λ x. from_rows (made norm x)) (local_each (read_modes p names) (local_modes p names) 0 (length p.preds)) (λ x. local_from_rows (made norm x))

  pub local_parts : IsLocal (read_parts p names comps)
  unfolding read_parts read_sections
  local_parts = local_bind read_head from_modes local_head local_from_modes
