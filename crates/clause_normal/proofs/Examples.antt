-- The definitions evaluated.
use Rattle.std.proofs.Common.{◌≡◌, ℕ, pos, List, [], ◌∷◌, Some, None, Ok, refl}
use Rattle.std.specs.Prelude.{codes}
use Rattle.std.specs.Fmt.{digits}
use Rattle.cti_terms.specs.Listing.{Listing}
use Rattle.cti_terms.specs.Tree.{Tree as Term, Variable, Integer, Compound, End, More}
use Rattle.cti_terms.specs.declared.builtins.Builtin.TheVariants.{Is, Less}
use Rattle.prolog_grammar.specs.Placed.{Tree, tree, Var, Int, Fun}
use Rattle.prolog_terms.specs.Clauses.{Clause, row}
use Rattle.clause_normal.specs.declared.fault.NormKind.TheVariants as kind
use Rattle.clause_normal.specs.Definite.{added_fault, program_of}
use Rattle.clause_normal.specs.Words.{is_impure, builtin_named, connective_of, neck_of}
use Rattle.clause_normal.specs.NormalForm.{normal_form}

-- the names of mem(X,[Y|T]) :- ( X = Y ; mem(X,T) ).
abbrev names : List (List ℕ)
names = codes ":-" ∷ codes "mem" ∷ codes "." ∷ codes ";" ∷ codes "=" ∷ codes "+" ∷ codes "-" ∷ codes "*" ∷ codes "$or1" ∷ []

abbrev variable : ℕ → ℕ → Tree
variable at x = tree at (Var x)

abbrev compound : ℕ → ℕ → List Tree → Tree
compound at f ts = tree at (Fun f (row ts))

-- the clause, with places of first tokens
abbrev member : Clause
member = record {
  term = compound 0 0 (
      compound 0 1 (variable 4 0 ∷ compound 6 2 (variable 7 1 ∷ variable 9 2 ∷ []) ∷ [])
      ∷ compound 16 3 (compound 18 4 (variable 18 0 ∷ variable 22 1 ∷ []) ∷ compound 26 1 (variable 30 0 ∷ variable 32 2 ∷ []) ∷ [])
      ∷ []
      );
  vars = 3;
}

abbrev x : ℕ → Term
x n = Variable n

abbrev args : List Term → List Term
args ts = ts

-- mem/2, '$or1'/3 and =/2 with their clauses
member_normal : normal_form names (member ∷ []) ≡ Ok (record {
  preds = record { name = record { 0 = 1 }; arity = 2 } ∷ record { name = record { 0 = 8 }; arity = 3 } ∷ record { name = record { 0 = 4 }; arity = 2 } ∷ [];
  clauses =
      record {
        head = record { pred = record { 0 = 0 }; args = x 0 ∷ Compound 2 (More (x 1) (More (x 2) End)) ∷ [] };
        body = record { pred = record { 0 = 1 }; args = x 0 ∷ x 1 ∷ x 2 ∷ [] } ∷ [];
        vars = 3;
      }
      ∷ record {
        head = record { pred = record { 0 = 1 }; args = x 0 ∷ x 1 ∷ x 2 ∷ [] };
        body = record { pred = record { 0 = 2 }; args = x 0 ∷ x 1 ∷ [] } ∷ [];
        vars = 3;
      }
      ∷ record {
        head = record { pred = record { 0 = 1 }; args = x 0 ∷ x 1 ∷ x 2 ∷ [] };
        body = record { pred = record { 0 = 0 }; args = x 0 ∷ x 2 ∷ [] } ∷ [];
        vars = 3;
      }
      ∷ record { head = record { pred = record { 0 = 2 }; args = x 0 ∷ x 0 ∷ [] }; body = []; vars = 1 }
      ∷ [];
  arithmetic = record { names = Some (record { plus = record { 0 = 5 }; minus = record { 0 = 6 }; times = record { 0 = 7 } }); builtins = [] };
})
unfolding is_impure builtin_named connective_of neck_of digits
member_normal = refl

-- the names of up(X,Y) :- X < 3, Y is X+1.
abbrev counting : List (List ℕ)
counting = codes ":-" ∷ codes "up" ∷ codes "," ∷ codes "<" ∷ codes "is" ∷ codes "+" ∷ codes "-" ∷ codes "*" ∷ []

abbrev integer : ℕ → ℕ → Tree
integer at n = tree at (Int (pos n))

abbrev up : Clause
up = record {
  term = compound 0 0 (
      compound 0 1 (variable 3 0 ∷ variable 5 1 ∷ [])
      ∷ compound 11 2 (compound 11 3 (variable 11 0 ∷ integer 15 3 ∷ []) ∷ compound 18 4 (variable 18 1 ∷ compound 23 5 (variable 23 0 ∷ integer 25 1 ∷ []) ∷ []) ∷ [])
      ∷ []
      );
  vars = 2;
}

-- up/2 with its clause; </2 and is/2 are built in
abbrev up_program : Listing
up_program = record {
  preds = record { name = record { 0 = 1 }; arity = 2 } ∷ record { name = record { 0 = 3 }; arity = 2 } ∷ record { name = record { 0 = 4 }; arity = 2 } ∷ [];
  clauses =
      record {
        head = record { pred = record { 0 = 0 }; args = x 0 ∷ x 1 ∷ [] };
        body =
            record { pred = record { 0 = 1 }; args = x 0 ∷ Integer (pos 3) ∷ [] }
            ∷ record { pred = record { 0 = 2 }; args = x 1 ∷ Compound 5 (More (x 0) (More (Integer (pos 1)) End)) ∷ [] }
            ∷ [];
        vars = 2;
      }
      ∷ [];
  arithmetic = record {
    names = Some (record { plus = record { 0 = 5 }; minus = record { 0 = 6 }; times = record { 0 = 7 } });
    builtins = (record { 0 = 1 }, Less) ∷ (record { 0 = 2 }, Is) ∷ [];
  };
}

up_normal : normal_form counting (up ∷ []) ≡ Ok up_program
unfolding is_impure builtin_named connective_of neck_of digits
up_normal = refl

-- ---- definite clauses

up_definite : program_of counting (up ∷ []) ≡ up_program
unfolding is_impure builtin_named connective_of neck_of digits
up_definite = refl

-- it may be added while there is room
up_added : added_fault counting 16383 up ≡ None
unfolding is_impure builtin_named connective_of neck_of
up_added = refl

up_is_one_more : added_fault counting 16384 up ≡ Some (kind.ManyClauses, 0)
unfolding is_impure builtin_named connective_of neck_of
up_is_one_more = refl

-- the disjunction of the other clause is impure
member_impure : added_fault names 0 member ≡ Some (kind.NotPure, 16)
unfolding is_impure builtin_named connective_of neck_of
member_impure = refl

-- the names of same(X,Y) :- X = Y.
abbrev equating : List (List ℕ)
equating = codes ":-" ∷ codes "same" ∷ codes "=" ∷ codes "+" ∷ codes "-" ∷ codes "*" ∷ []

abbrev equal : Clause
equal = record {
  term = compound 0 0 (compound 0 1 (variable 5 0 ∷ variable 7 1 ∷ []) ∷ compound 13 2 (variable 13 0 ∷ variable 17 1 ∷ []) ∷ []);
  vars = 2;
}

-- the clause of =/2 is last
equal_definite : program_of equating (equal ∷ equal ∷ []) ≡ record {
  preds = record { name = record { 0 = 1 }; arity = 2 } ∷ record { name = record { 0 = 2 }; arity = 2 } ∷ [];
  clauses =
      record { head = record { pred = record { 0 = 0 }; args = x 0 ∷ x 1 ∷ [] }; body = record { pred = record { 0 = 1 }; args = x 0 ∷ x 1 ∷ [] } ∷ []; vars = 2 }
      ∷ record { head = record { pred = record { 0 = 0 }; args = x 0 ∷ x 1 ∷ [] }; body = record { pred = record { 0 = 1 }; args = x 0 ∷ x 1 ∷ [] } ∷ []; vars = 2 }
      ∷ record { head = record { pred = record { 0 = 1 }; args = x 0 ∷ x 0 ∷ [] }; body = []; vars = 1 }
      ∷ [];
  arithmetic = record { names = Some (record { plus = record { 0 = 3 }; minus = record { 0 = 4 }; times = record { 0 = 5 } }); builtins = [] };
}
unfolding is_impure builtin_named connective_of neck_of digits
equal_definite = refl
