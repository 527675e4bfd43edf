-- The clauses of the program of definite clauses by the names of their predicates: each depends on its clause of the
-- list alone.
use Rattle.std.proofs.Common.{◌≡◌, ◌≢◌, ℕ, zero, suc, ◌+◌, ◌<◌, ◌||◌, ◌==◌, ◌⊎◌, inl, inr, Bool, true, false, if◌then◌else◌, List, [], ◌∷◌, ◌++◌, map, length, position, get_or, slice_get, Option, None, Some, refl, ap, sym, ◌∙◌, subst, arith, append-nil, append_assoc, length-append, eqb-true}
use Rattle.std.specs.Prelude.{codes, option_map, slice_index_or, nat_lt}
use Rattle.std.specs.List.{AllByRecursion, AllPairs, list_any, position_or_len}
use Rattle.std.specs.Cmp.Lexicographic.{same_text}
use Rattle.std.proofs.lemmas.Bool.{and_parts, ltb-false, ltb-true}
use Rattle.std.proofs.lemmas.List.{length-map, map_push}
use Rattle.std.proofs.lemmas.List.Quantifiers.{position-Some}
use Rattle.std.proofs.lemmas.List.Sums.{passes_at_first}
use Rattle.std.proofs.lemmas.Option.{slice_get-get_or, slice_get-map, slice_get_within}
use Rattle.cti_terms.specs.Listing.{Listing, is_pred, with_pred}
use Rattle.cti_terms.specs.declared.clauses.Clause.{Clause}
use Rattle.cti_terms.specs.declared.predicates.Pred.{Pred}
use Rattle.prolog_terms.specs.Clauses.{Clause as TextClause}
use Rattle.prolog_operators.specs.Names.{name_text}
use Rattle.prolog_operators.proofs.NameLemmas.{Placed, no_place, placed}
use Rattle.prolog_grammar.specs.Placed.{Tree}
use Rattle.linear_rows.specs.Members.{In}
use Rattle.clause_variables.specs.Terms.{renumbered}
use Rattle.clause_normal.specs.Words.{is_name}
use Rattle.clause_normal.specs.Rules.{Call, Rule}
use Rattle.clause_normal.specs.Numbering.{atom_after, atoms_after, empty_program, equality_clause, is_equality, order_of, pred_of, with_calls, with_equality_clause, with_rule, with_rules}
use Rattle.clause_normal.specs.Definite.{AreDefinite, Parted, no_clause, fact, rule, parted, parted_fault, parts_fault, parts_rule, program_of, rules_of}
use Rattle.component_laws.specs.Untouched.{NamedAtom, NamedClause, named, named_atom}
use Rattle.solved_program.proofs.Clauses.{in_at}

-- ---- predicates that stay at their places
abbrev pub Stays : List Pred → List Pred → Type 0
Stays ps qs = (i : ℕ) (x : Pred) → slice_get ps i ≡ Some x → slice_get qs i ≡ Some x

pub before_more : {X : Type 0} (xs ys : List X) (i : ℕ) → i < length xs → slice_get (xs ++ ys) i ≡ slice_get xs i
before_more [] ys i lt = absurd (omega arith)
before_more (x ∷ xs) ys zero lt = refl
before_more (x ∷ xs) ys (suc i) lt = before_more xs ys i (omega (arith, lt))

pub after_some : {X : Type 0} (xs ys : List X) (i : ℕ) → slice_get (xs ++ ys) (length xs + i) ≡ slice_get ys i
after_some [] ys i = let e : 0 + i ≡ i = omega arith in ap (slice_get ys) e
after_some (x ∷ xs) ys i = let e : suc (length xs) + i ≡ suc (length xs + i) = omega arith in ap (slice_get (x ∷ (xs ++ ys))) e ∙ after_some xs ys i

pub at_end : {X : Type 0} (xs : List X) (y : X) → slice_get (xs ++ y ∷ []) (length xs) ≡ Some y
at_end xs y = let e : length xs ≡ length xs + 0 = omega arith in ap (slice_get (xs ++ y ∷ [])) e ∙ after_some xs (y ∷ []) 0

more_stays : (ps more : List Pred) → Stays ps (ps ++ more)
more_stays ps more i x e = before_more ps more i (slice_get_within ps i x e) ∙ e

with_pred_stays : (ps : List Pred) (p : Pred) → Stays ps (with_pred ps p)
with_pred_stays ps p = go (list_any (is_pred p.name.0 p.arity) ps)
  where
    go : (b : Bool) → Stays ps (if b then ps else ps ++ p ∷ [])
    go true i x e = e
    go false i x e = more_stays ps (p ∷ []) i x e

same_of_test : (x y : Pred) → is_pred x.name.0 x.arity y ≡ true → y ≡ x
same_of_test x y e =
    let parts = and_parts (x.name.0 == y.name.0) (x.arity == y.arity) e in
    let n = eqb-true x.name.0 y.name.0 parts.0 in
    let m = eqb-true x.arity y.arity parts.1 in
    λ i. record { name = record { 0 = sym n i }; arity = sym m i }

-- a predicate has its number
pred_there : (ps : List Pred) (p : Pred) → slice_get (with_pred ps p) (position_or_len (is_pred p.name.0 p.arity) ps) ≡ Some p
pred_there ps p = go (placed (is_pred p.name.0 p.arity) ps)
  where
    go : Placed (is_pred p.name.0 p.arity) ps → slice_get (with_pred ps p) (position_or_len (is_pred p.name.0 p.arity) ps) ≡ Some p
    go (inl found) =
        let at = position_or_len (is_pred p.name.0 p.arity) ps in
        ap (λ (b : Bool). slice_get (if b then ps else ps ++ p ∷ []) at) found.0
        ∙ slice_get-get_or ps at p found.1
        ∙ ap Some (same_of_test p (get_or ps at p) (passes_at_first (is_pred p.name.0 p.arity) ps p found.1))
    go (inr away) =
        ap (λ (b : Bool). slice_get (if b then ps else ps ++ p ∷ []) (position_or_len (is_pred p.name.0 p.arity) ps)) away.0
        ∙ ap (slice_get (ps ++ p ∷ [])) away.1 ∙ at_end ps p

-- ---- elements and places
pub at_in : {X : Type 0} (xs : List X) (x : X) → In x xs → (i : ℕ) × (slice_get xs i ≡ Some x)
at_in [] x h = absurd h
at_in (y ∷ xs) x (inl is) = (0, ap Some is)
at_in (y ∷ xs) x (inr h) = let r = at_in xs x h in (suc r.0, r.1)

in_stays : (ps qs : List Pred) → Stays ps qs → (x : Pred) → In x ps → In x qs
in_stays ps qs s x h = let r = at_in ps x h in in_at qs r.0 x (s r.0 x r.1)

-- ---- what is called, by name
module _ (names : List (List ℕ)) where
  abbrev pub named_call : List ℕ → Call → NamedAtom
  named_call order c = record { pred = Some (pred_of names c); args = map (renumbered order) c.args }

  abbrev pub named_rule : Rule → NamedClause
  named_rule r = record { head = named_call (order_of r) r.head; body = map (named_call (order_of r)) r.body; vars = length (order_of r) }

  calls_stay : (ps : List Pred) (cs : List Call) → Stays ps (with_calls names ps cs)
  calls_stay ps [] i x e = e
  calls_stay ps (c ∷ cs) i x e = calls_stay (with_pred ps (pred_of names c)) cs i x (with_pred_stays ps (pred_of names c) i x e)

  pub rules_stay : (p : Listing) (rs : List Rule) → Stays p.preds (with_rules names p rs).preds
  rules_stay p [] i x e = e
  rules_stay p (r ∷ rs) i x e = rules_stay (with_rule names p r) rs i x (calls_stay p.preds (r.head ∷ r.body) i x e)

  -- ---- which predicates there are
  calls_from : (ps : List Pred) (cs : List Call) (x : Pred) → In x (with_calls names ps cs) → In x ps ⊎ In x (map (pred_of names) cs)
  calls_from ps [] x h = inl h
  calls_from ps (c ∷ cs) x h = elim (calls_from (with_pred ps (pred_of names c)) cs x h) [
    | inl old ↦ go (list_any (is_pred (pred_of names c).name.0 (pred_of names c).arity) ps) old
    | inr more ↦ inr (inr more)
  ]
    where
      pushed : (ps : List Pred) → In x (ps ++ pred_of names c ∷ []) → In x ps ⊎ In x (map (pred_of names) (c ∷ cs))
      pushed [] (inl is) = inr (inl is)
      pushed [] (inr h) = absurd h
      pushed (p ∷ ps) (inl is) = inl (inl is)
      pushed (p ∷ ps) (inr h) = elim (pushed ps h) [ inl l ↦ inl (inr l) | inr r ↦ inr r ]

      go : (b : Bool) → In x (if b then ps else ps ++ pred_of names c ∷ []) → In x ps ⊎ In x (map (pred_of names) (c ∷ cs))
      go true h = inl h
      go false h = pushed ps h

  calls_into : (ps : List Pred) (cs : List Call) (x : Pred) → In x (map (pred_of names) cs) → In x (with_calls names ps cs)
  calls_into ps [] x h = absurd h
  calls_into ps (c ∷ cs) x (inl is) =
      let p = pred_of names c in
      let here : In p (with_pred ps p) = in_at (with_pred ps p) (position_or_len (is_pred p.name.0 p.arity) ps) p (pred_there ps p) in
      subst (λ (y : Pred). In y (with_calls names (with_pred ps p) cs)) is (in_stays (with_pred ps p) (with_calls names (with_pred ps p) cs) (calls_stay (with_pred ps p) cs) p here)
  calls_into ps (c ∷ cs) x (inr h) = calls_into (with_pred ps (pred_of names c)) cs x h

  -- the predicates of a rule
  abbrev pub preds_of : Rule → List Pred
  preds_of r = map (pred_of names) (r.head ∷ r.body)

  pub preds_from : (p : Listing) (rs : List Rule) (x : Pred) → In x (with_rules names p rs).preds → In x p.preds ⊎ ((r : Rule) × In r rs × In x (preds_of r))
  preds_from p [] x h = inl h
  preds_from p (r ∷ rs) x h = elim (preds_from (with_rule names p r) rs x h) [
    | inl old ↦ elim (calls_from p.preds (r.head ∷ r.body) x old) [
      | inl before ↦ inl before
      | inr own ↦ inr (r, inl refl, own)
    ]
    | inr more ↦ inr (more.0, inr more.1, more.2)
  ]

  pub preds_into : (p : Listing) (rs : List Rule) (r : Rule) (x : Pred) → In r rs → In x (preds_of r) → In x (with_rules names p rs).preds
  preds_into p [] r x h i = absurd h
  preds_into p (s ∷ rs) r x (inl is) i =
      let own : In x (preds_of s) = subst (λ (t : Rule). In x (preds_of t)) (sym is) i in
      in_stays (with_rule names p s).preds (with_rules names p (s ∷ rs)).preds (rules_stay (with_rule names p s) rs) x (calls_into p.preds (s.head ∷ s.body) x own)
  preds_into p (s ∷ rs) r x (inr h) i = preds_into (with_rule names p s) rs r x h i

  -- ---- clauses, by the names that a later program has
  module _ (g : Listing) where
    atom_named : (order : List ℕ) (ps : List Pred) (c : Call) → Stays (with_pred ps (pred_of names c)) g.preds → named_atom g (atom_after names order ps c) ≡ named_call order c
    atom_named order ps c s =
        let p = pred_of names c in
        let at = s (position_or_len (is_pred p.name.0 p.arity) ps) p (pred_there ps p) in
        λ i. record { pred = at i; args = map (renumbered order) c.args }

    atoms_named : (order : List ℕ) (ps : List Pred) (cs : List Call) → Stays (with_calls names ps cs) g.preds → map (named_atom g) (atoms_after names order ps cs) ≡ map (named_call order) cs
    atoms_named order ps [] s = refl
    atoms_named order ps (c ∷ cs) s =
        let next = with_pred ps (pred_of names c) in
        let first = atom_named order ps c (λ i x e. s i x (calls_stay next cs i x e)) in
        let more = atoms_named order next cs s in
        λ i. first i ∷ more i

    abbrev clause_after : Listing → Rule → Clause
    clause_after p r = record {
      head = atom_after names (order_of r) p.preds r.head;
      body = atoms_after names (order_of r) (with_pred p.preds (pred_of names r.head)) r.body;
      vars = length (order_of r);
    }

    clause_named : (p : Listing) (r : Rule) → Stays (with_calls names p.preds (r.head ∷ r.body)) g.preds → named g (clause_after p r) ≡ named_rule r
    clause_named p r s =
        let next = with_pred p.preds (pred_of names r.head) in
        let head = atom_named (order_of r) p.preds r.head (λ i x e. s i x (calls_stay next r.body i x e)) in
        let body = atoms_named (order_of r) next r.body s in
        λ i. record { head = head i; body = body i; vars = length (order_of r) }

    pub rules_named : (p : Listing) (rs : List Rule) → Stays (with_rules names p rs).preds g.preds → map (named g) (with_rules names p rs).clauses ≡ map (named g) p.clauses ++ map named_rule rs
    rules_named p [] s = sym (append-nil (map (named g) p.clauses))
    rules_named p (r ∷ rs) s =
        let q = with_rule names p r in
        let one = clause_named p r (λ i x e. s i x (rules_stay q rs i x e)) in
        rules_named q rs s
        ∙ ap (λ (ks : List NamedClause). ks ++ map named_rule rs) (map_push (named g) p.clauses (clause_after p r) ∙ (λ i. map (named g) p.clauses ++ one i ∷ []))
        ∙ append_assoc (map (named g) p.clauses) (named_rule r ∷ []) (map named_rule rs)

  -- ---- a clause of the list is one rule
  abbrev pub AllFine : List TextClause → Type 0
  AllFine cs = AllByRecursion (λ (c : TextClause). parted_fault names c ≡ None) cs

  abbrev pub rule_for : Option TextClause → Option Rule
  rule_for None = None
  rule_for (Some c) = slice_get (parts_rule names (parted names c.term)) 0

  first_rule : (t : Tree) (q : Parted) → parts_fault names t q ≡ None → (rs : List Rule) → slice_get (parts_rule names q ++ rs) 0 ≡ slice_get (parts_rule names q) 0
  first_rule t (no_clause k) h rs = absurd (let e = h in cc)
  first_rule t (fact u) h rs = refl
  first_rule t (rule u b) h rs = refl

  later_rule : (t : Tree) (q : Parted) → parts_fault names t q ≡ None → (rs : List Rule) (i : ℕ) → slice_get (parts_rule names q ++ rs) (suc i) ≡ slice_get rs i
  later_rule t (no_clause k) h rs i = absurd (let e = h in cc)
  later_rule t (fact u) h rs i = refl
  later_rule t (rule u b) h rs i = refl

  one_more : (t : Tree) (q : Parted) → parts_fault names t q ≡ None → (rs : List Rule) → length (parts_rule names q ++ rs) ≡ suc (length rs)
  one_more t (no_clause k) h rs = absurd (let e = h in cc)
  one_more t (fact u) h rs = refl
  one_more t (rule u b) h rs = refl

  pub rule_at : (cs : List TextClause) → AllFine cs → (i : ℕ) → slice_get (rules_of names cs) i ≡ rule_for (slice_get cs i)
  rule_at [] h i = refl
  rule_at (c ∷ cs) h zero = first_rule c.term (parted names c.term) h.0 (rules_of names cs)
  rule_at (c ∷ cs) h (suc i) = later_rule c.term (parted names c.term) h.0 (rules_of names cs) i ∙ rule_at cs h.1 i

  pub how_many_rules : (cs : List TextClause) → AllFine cs → length (rules_of names cs) ≡ length cs
  how_many_rules [] h = refl
  how_many_rules (c ∷ cs) h = one_more c.term (parted names c.term) h.0 (rules_of names cs) ∙ ap suc (how_many_rules cs h.1)

  -- ---- the program of a list
  abbrev pub named_at : List TextClause → ℕ → Option NamedClause
  named_at cs i = option_map named_rule (rule_for (slice_get cs i))

  module _ (cs : List TextClause) (definite : AreDefinite names cs) where
    abbrev pub plain : Listing
    plain = with_rules names (empty_program names) (rules_of names cs)

    abbrev pub whole : Listing
    whole = program_of names cs

    plain_named : map (named whole) plain.clauses ≡ map named_rule (rules_of names cs)
    plain_named = rules_named whole (empty_program names) (rules_of names cs) (λ i x e. e)

    pub plain_many : length plain.clauses ≡ length cs
    plain_many =
        sym (length-map plain.clauses (named whole)) ∙ ap length plain_named ∙ length-map (rules_of names cs) named_rule ∙ how_many_rules cs definite.each

    -- the clause of =/2 is one more, if it is there
    abbrev pub HasEquality : Type 0
    HasEquality = (q : ℕ) × (x : Pred) × (whole.clauses ≡ plain.clauses ++ equality_clause q ∷ []) × (slice_get whole.preds q ≡ Some x) × (is_equality names x ≡ true)

    abbrev pub HasNone : Type 0
    HasNone = (whole.clauses ≡ plain.clauses) × (position (is_equality names) plain.preds ≡ None)

    pub equality_or_none : HasEquality ⊎ HasNone
    equality_or_none = go (position (is_equality names) plain.preds) refl
      where
        go : (o : Option ℕ) → position (is_equality names) plain.preds ≡ o → HasEquality ⊎ HasNone
        go None e = inr (ap (λ (o : Option ℕ). with_equality_clause o plain.clauses) e, e)
        go (Some q) e =
            let d : Pred = record { name = record { 0 = 0 }; arity = 0 } in
            let found = position-Some (is_equality names) plain.preds q d e in
            inl (q, get_or plain.preds q d, ap (λ (o : Option ℕ). with_equality_clause o plain.clauses) e, slice_get-get_or plain.preds q d found.0, found.1)

    pub below_is_plain : (i : ℕ) → i < length cs → slice_get whole.clauses i ≡ slice_get plain.clauses i
    below_is_plain i lt = elim equality_or_none [
      | inl has ↦ ap (λ (ks : List Clause). slice_get ks i) has.2 ∙ before_more plain.clauses (equality_clause has.0 ∷ []) i (omega (arith, plain_many, lt))
      | inr none ↦ ap (λ (ks : List Clause). slice_get ks i) none.0
    ]

    -- each clause of the list, by name
    pub place_named : (i : ℕ) → i < length cs → option_map (named whole) (slice_get whole.clauses i) ≡ named_at cs i
    place_named i lt =
        ap (option_map (named whole)) (below_is_plain i lt)
        ∙ sym (slice_get-map (named whole) plain.clauses i)
        ∙ ap (λ (ks : List NamedClause). slice_get ks i) plain_named
        ∙ slice_get-map named_rule (rules_of names cs) i
        ∙ ap (option_map named_rule) (rule_at cs definite.each i)

    pub whole_many : (has : HasEquality) → length whole.clauses ≡ suc (length cs)
    whole_many has = omega (arith, ap length has.2, length-append plain.clauses (equality_clause has.0 ∷ []), plain_many)

    pub whole_few : HasNone → length whole.clauses ≡ length cs
    whole_few none = ap length none.0 ∙ plain_many

    pub equality_last : (has : HasEquality) → slice_get whole.clauses (length cs) ≡ Some (equality_clause has.0)
    equality_last has =
        ap (λ (ks : List Clause). slice_get ks (length cs)) has.2 ∙ ap (slice_get (plain.clauses ++ equality_clause has.0 ∷ [])) (sym plain_many) ∙ at_end plain.clauses (equality_clause has.0)

    -- it is there where =/2 is called
    pub equality_if : (x : Pred) → In x plain.preds → is_equality names x ≡ true → HasEquality
    equality_if x i e = elim equality_or_none [
      | inl has ↦ has
      | inr none ↦ absurd (let away = (no_place (is_equality names) plain.preds (sym none.1)).1 in let here = any_of plain.preds i in cc)
    ]
      where
        or_true : (b : Bool) → (b || true) ≡ true
        or_true true = refl
        or_true false = refl

        any_of : (ps : List Pred) → In x ps → list_any (is_equality names) ps ≡ true
        any_of [] h = absurd h
        any_of (p ∷ ps) (inl is) = ap (λ (y : Pred). is_equality names y || list_any (is_equality names) ps) is ∙ ap (λ (b : Bool). b || list_any (is_equality names) ps) e
        any_of (p ∷ ps) (inr h) = ap (λ (b : Bool). is_equality names p || b) (any_of ps h) ∙ or_true (is_equality names p)

  -- ---- there is one predicate =/2
  module _ (distinct : AllPairs (λ (a b : List ℕ). a ≢ b) names) where
    named_equal : (n : ℕ) → is_name names n (codes "=") ≡ true → name_text names n ≡ codes "="
    named_equal n e = same_text (name_text names n) (codes "=") (sym e)

    there_is : (ns : List (List ℕ)) (n : ℕ) → slice_index_or ns n [] ≡ codes "=" → n < length ns
    there_is [] n e = absurd (cc)
    there_is (x ∷ ns) zero e = omega arith
    there_is (x ∷ ns) (suc n) e = omega (arith, there_is ns n e)

    one_number : (n m : ℕ) → name_text names n ≡ codes "=" → name_text names m ≡ codes "=" → n ≡ m
    one_number n m e f = go (nat_lt n m) refl (nat_lt m n) refl
      where
        go : (a : Bool) → nat_lt n m ≡ a → (b : Bool) → nat_lt m n ≡ b → n ≡ m
        go true s b t = absurd (distinct n m [] (ltb-true n m s) (there_is names m f) (e ∙ sym f))
        go false s true t = absurd (distinct m n [] (ltb-true m n t) (there_is names n e) (f ∙ sym e))
        go false s false t = omega (arith, ltb-false n m s, ltb-false m n t)

    pub one_equality : (x y : Pred) → is_equality names x ≡ true → is_equality names y ≡ true → x ≡ y
    one_equality x y e f =
        let a = and_parts (is_name names x.name.0 (codes "=")) (x.arity == 2) e in
        let b = and_parts (is_name names y.name.0 (codes "=")) (y.arity == 2) f in
        let name = one_number x.name.0 y.name.0 (named_equal x.name.0 a.0) (named_equal y.name.0 b.0) in
        let arity : x.arity ≡ y.arity = eqb-true x.arity 2 a.1 ∙ sym (eqb-true y.arity 2 b.1) in
        λ i. record { name = record { 0 = name i }; arity = arity i }
