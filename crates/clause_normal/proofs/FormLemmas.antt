-- Lemmas on what the term of a clause is.
use Rattle.std.proofs.Common.{◌≡◌, ℕ, ◌<◌, Bool, List, [], ◌∷◌, ◌++◌, length, map, ap, sym, ◌∙◌, arith, append-nil, if◌then◌else◌, Vec, Global}
use Rattle.std.proofs.lemmas.Bool.Decides.{nat_tests}
use Rattle.cti_terms.specs.declared.naming.Name.{Name}
use Rattle.prolog_grammar.specs.Placed.{Tree, tree, Fun}
use Rattle.prolog_terms.specs.declared.term.ReadTerm.{ReadTerm}
use Rattle.prolog_terms.specs.declared.term.ReadShape.TheVariants as shape
use Rattle.prolog_terms.specs.Clauses.{row, list_of, nodes}
use Rattle.prolog_reader.specs.Names.{name_text}
use Rattle.prolog_terms.specs.Terms.{tree_of}
use Rattle.prolog_reader.proofs.ViewLemmas.{tree_of_fun, arity_terms, list_of_row}
use Rattle.clause_normal.specs.declared.fault.NormKind.TheVariants as kind
use Rattle.clause_normal.specs.declared.words.Neck.{Neck}
use Rattle.clause_normal.specs.declared.words.Neck.TheVariants as neck
use Rattle.clause_normal.specs.Words.{neck_of, is_silent}
use Rattle.clause_variables.specs.Terms.{occurrences, list_variables}
use Rattle.clause_normal.specs.NormalForm.{skipped, refused, is_silent_goal, named_form, form_of, named_head_fault, head_fault, head_call}
use Rattle.clause_normal.specs.Definite.{named_parts, parted}
use Rattle.clause_normal.specs.Rules.{named}
use Rattle.clause_variables.specs.TermViews.{plain_of}
use Rattle.clause_normal.proofs.PartLemmas.{plain_list_row}
use Rattle.clause_variables.proofs.TermLemmas.{occurrences_fun}

-- how many arguments a directive and a rule have
pub one_of_directive : (text : List ℕ) (n : ℕ) → neck_of text n ≡ neck.Directive → n ≡ 1
unfolding neck_of
one_of_directive text n h = grind (arith, nat_tests)

pub two_of_implies : (text : List ℕ) (n : ℕ) → neck_of text n ≡ neck.Implies → n ≡ 2
unfolding neck_of
two_of_implies text n h = grind (arith, nat_tests)

module _ (names : List (List ℕ)) (t : ReadTerm) (f : Name) (args : Vec ReadTerm Global) (is : t.shape ≡ shape.Fun f args) where
  -- the parts that a name with arguments is tested by
  pub silent_fun : is_silent_goal names (tree_of t) ≡ is_silent (name_text names f.0) (length args.items)
  silent_fun = ap (is_silent_goal names) (tree_of_fun t f args is) ∙ ap (is_silent (name_text names f.0)) (arity_terms args.items)

  pub form_fun : form_of names (tree_of t) ≡ named_form names (tree_of t) (neck_of (name_text names f.0) (length args.items)) (map tree_of args.items)
  form_fun =
      let ts = row (map tree_of args.items) in
      let tr : Tree = tree t.at (Fun f.0 ts) in
      let s : tree_of t ≡ tr = tree_of_fun t f args is in
      ap (form_of names) s
      ∙ ap (λ (n : ℕ). named_form names tr (neck_of (name_text names f.0) n) (list_of ts)) (arity_terms args.items)
      ∙ ap (named_form names tr (neck_of (name_text names f.0) (length args.items))) (list_of_row (map tree_of args.items))
      ∙ ap (λ (u : Tree). named_form names u (neck_of (name_text names f.0) (length args.items)) (map tree_of args.items)) (sym s)

  pub form_at : (k : Neck) → neck_of (name_text names f.0) (length args.items) ≡ k → form_of names (tree_of t) ≡ named_form names (tree_of t) k (map tree_of args.items)
  form_at k h = form_fun ∙ ap (λ (k : Neck). named_form names (tree_of t) k (map tree_of args.items)) h

  -- the same for the parts of a term
  pub parts_at : (k : Neck) → neck_of (name_text names f.0) (length args.items) ≡ k → parted names (tree_of t) ≡ named_parts (tree_of t) k (map tree_of args.items)
  parts_at k h =
      let ts = row (map tree_of args.items) in
      let tr : Tree = tree t.at (Fun f.0 ts) in
      let s : tree_of t ≡ tr = tree_of_fun t f args is in
      ap (parted names) s
      ∙ (λ i. named_parts tr (neck_of (name_text names f.0) (arity_terms args.items i)) (list_of_row (map tree_of args.items) i))
      ∙ (λ i. named_parts (sym s i) (h i) (map tree_of args.items))

  pub form_directive : (d : ReadTerm) (b : Bool) → neck_of (name_text names f.0) (length args.items) ≡ neck.Directive → args.items ≡ d ∷ [] → is_silent_goal names (tree_of d) ≡ b
      → form_of names (tree_of t) ≡ (if b then skipped else refused kind.Directive)
  form_directive d b h e silent =
      form_at neck.Directive h ∙ ap (λ (ts : List ReadTerm). named_form names (tree_of t) neck.Directive (map tree_of ts)) e
      ∙ ap (λ (b : Bool). if b then skipped else refused kind.Directive) silent

  pub occurrences_two : (h b : ReadTerm) → args.items ≡ h ∷ b ∷ [] → occurrences (tree_of t) ≡ occurrences (tree_of h) ++ occurrences (tree_of b)
  occurrences_two h b e =
      occurrences_fun t f args is ∙ ap (λ (ts : List ReadTerm). list_variables (map plain_of ts)) e
      ∙ ap (λ (xs : List ℕ). occurrences (tree_of h) ++ xs) (append-nil (occurrences (tree_of b)))

  pub second_smaller : (h b : ReadTerm) → args.items ≡ h ∷ b ∷ [] → nodes (tree_of b) < nodes (tree_of t)
  second_smaller h b e =
      omega (arith, ap nodes (tree_of_fun t f args is ∙ ap (λ (ts : List ReadTerm). tree t.at (Fun f.0 (row (map tree_of ts)))) e))

  -- the head's fault and its call
  pub head_fault_fun : head_fault names (tree_of t) ≡ named_head_fault (name_text names f.0) (length args.items) t.at
  head_fault_fun = ap (head_fault names) (tree_of_fun t f args is) ∙ ap (λ (n : ℕ). named_head_fault (name_text names f.0) n t.at) (arity_terms args.items)

  pub head_call_fun : head_call (tree_of t) ≡ record { functor = named f.0; args = map plain_of args.items }
  head_call_fun = ap head_call (tree_of_fun t f args is) ∙ (λ i. record { functor = named f.0; args = plain_list_row args.items i })
