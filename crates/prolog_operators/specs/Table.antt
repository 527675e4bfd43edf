-- To believe, for reading.
-- Operators by the numbers of their names, and how one is set.
--
-- To believe: all of this file.
-- Source: ISO/IEC 13211-1:1995, 6.3.4.4 (the operator table) and 8.14.3 (op/3), in this project's profile.
use Rattle.std.specs.Prelude.{◌≡◌, ℕ, ℤ, pos, negsuc, nat_le, nat_eq, ◌-◌, ◌==◌, Bool, List, [], ◌∷◌, Option, Some, None, Result, Ok, Err, codes, if◌then◌else◌}
use Rattle.std.specs.List.{list_any}
use Rattle.std.specs.Cmp.Lexicographic.{pointwise}
use Rattle.cti_terms.specs.Numbers.{number_of}
use Rattle.prolog_grammar.specs.Rules.{Infix, Prefix}
use Rattle.prolog_operators.specs.declared.kind.OpKind.{OpKind}
use Rattle.prolog_operators.specs.declared.fault.OpFault.{OpFault}
use Rattle.prolog_operators.specs.declared.fault.OpFault.TheVariants.{BadPriority, BadName, Memory}
use Rattle.prolog_operators.specs.declared.kind.OpKind.TheVariants.{Xfx, Xfy, Yfx, Fx, Fy}

-- the infix and the prefix meaning of each name
pub record Table : Type 0 where
  pub infixes : ℕ → Option Infix
  pub prefixes : ℕ → Option Prefix

abbrev pub no_operators : Table
no_operators = record { infixes = λ n. None; prefixes = λ n. None }

-- the meaning of a name, and all others as they were
abbrev pub changed : {M : Type 0} → (ℕ → Option M) → ℕ → Option M → ℕ → Option M
changed meanings name meaning n = if name == n then meaning else meanings n

-- a meaning of this priority; priority 0 is none
abbrev pub unless_removed : {M : Type 0} → ℕ → M → Option M
unless_removed priority meaning = if priority == 0 then None else Some meaning

abbrev pub infix_meaning : ℕ → ℕ → ℕ → Option Infix
infix_meaning priority left right = unless_removed priority (record { priority = priority; left = left; right = right })

abbrev pub prefix_meaning : ℕ → ℕ → Option Prefix
prefix_meaning priority right = unless_removed priority (record { priority = priority; right = right })

abbrev pub with_infix : Table → ℕ → Option Infix → Table
with_infix table name meaning = record { infixes = changed table.infixes name meaning; prefixes = table.prefixes }

abbrev pub with_prefix : Table → ℕ → Option Prefix → Table
with_prefix table name meaning = record { infixes = table.infixes; prefixes = changed table.prefixes name meaning }

-- one meaning of a name set, or removed where the priority is 0: a side marked x allows only lower priorities
abbrev pub with_operator : Table → ℕ → OpKind → ℕ → Table
with_operator table priority Xfx name = with_infix table name (infix_meaning priority (priority - 1) (priority - 1))
with_operator table priority Xfy name = with_infix table name (infix_meaning priority (priority - 1) priority)
with_operator table priority Yfx name = with_infix table name (infix_meaning priority priority (priority - 1))
with_operator table priority Fx name = with_prefix table name (prefix_meaning priority (priority - 1))
with_operator table priority Fy name = with_prefix table name (prefix_meaning priority priority)

-- the same of each of these names
abbrev pub with_operators : Table → ℕ → OpKind → List ℕ → Table
with_operators table priority kind [] = table
with_operators table priority kind (n ∷ ns) = with_operators (with_operator table priority kind n) priority kind ns

-- the same of the names with these texts
abbrev pub with_texts : List (List ℕ) → Table → ℕ → OpKind → List (List ℕ) → Table
with_texts names table priority kind [] = table
with_texts names table priority kind (t ∷ ts) = with_texts names (with_operator table priority kind (number_of names t)) priority kind ts

-- the operators of clauses, of control, and of comparison
abbrev pub clause_operators : List (List ℕ) → Table → Table
clause_operators names table =
    let t1 = with_texts names table 1200 Xfx (codes ":-" ∷ codes "-->" ∷ []) in
    let t2 = with_texts names t1 1200 Fx (codes ":-" ∷ codes "?-" ∷ []) in
    let t3 = with_texts names t2 1100 Xfy (codes ";" ∷ []) in
    let t4 = with_texts names t3 1050 Xfy (codes "->" ∷ []) in
    with_texts names t4 900 Fy (codes "\\+" ∷ [])

abbrev pub comparison_operators : List (List ℕ) → Table → Table
comparison_operators names table =
    let t1 = with_texts names table 700 Xfx (codes "=" ∷ codes "\\=" ∷ codes "==" ∷ codes "\\==" ∷ codes "@<" ∷ codes "@=<" ∷ codes "@>" ∷ codes "@>=" ∷ []) in
    with_texts names t1 700 Xfx (codes "=.." ∷ codes "is" ∷ codes "=:=" ∷ codes "=\\=" ∷ codes "<" ∷ codes "=<" ∷ codes ">" ∷ codes ">=" ∷ [])

-- the operators of arithmetic
abbrev pub arithmetic_operators : List (List ℕ) → Table → Table
arithmetic_operators names table =
    let t1 = with_texts names table 500 Yfx (codes "+" ∷ codes "-" ∷ codes "/\\" ∷ codes "\\/" ∷ []) in
    let t2 = with_texts names t1 400 Yfx (codes "*" ∷ codes "/" ∷ codes "//" ∷ codes "rem" ∷ codes "mod" ∷ codes "<<" ∷ codes ">>" ∷ []) in
    let t3 = with_texts names t2 200 Xfx (codes "**" ∷ []) in
    let t4 = with_texts names t3 200 Xfy (codes "^" ∷ []) in
    with_texts names t4 200 Fy (codes "-" ∷ codes "\\" ∷ [])

-- the operators before the first clause of a text
abbrev pub standard : List (List ℕ) → Table
standard names = arithmetic_operators names (comparison_operators names (clause_operators names no_operators))

-- the names that are never operators: , and | and [] and {}
abbrev pub is_reserved : List ℕ → Bool
is_reserved text = list_any (pointwise nat_eq text) (codes "," ∷ codes "|" ∷ codes "[]" ∷ codes "{}" ∷ [])

-- a priority from 0 to 1200
abbrev pub priority_in : ℤ → Option ℕ
priority_in (pos p) = if nat_le p 1200 then Some p else None
priority_in (negsuc p) = None

-- a priority and a name put to a table, or why not: the priority is tested first
abbrev pub setting_by : Table → Option ℕ → OpKind → ℕ → List ℕ → Result Table OpFault
setting_by table None kind name text = Err BadPriority
setting_by table (Some priority) kind name text = if is_reserved text then Err BadName else Ok (with_operator table priority kind name)

abbrev pub setting : Table → ℤ → OpKind → ℕ → List ℕ → Result Table OpFault
setting table priority kind name text = setting_by table (priority_in priority) kind name text

-- the refusal is that one; out of memory needs no cause
abbrev pub IsCauseOf : OpFault → Result Table OpFault → Type 0
IsCauseOf Memory answer = Unit {0}
IsCauseOf fault answer = answer ≡ Err fault
