-- Why a query is refused, and what stays known where it adds names.
use Rattle.std.proofs.Common.{◌≡◌, ℕ, ◌<◌, ◌≤◌, ◌==◌, ◌&&◌, not, cond, ◌+◌, length, List, [], ◌∷◌, Some, None, refl, ap, Err, position, codes, arith, nat_lt}
use Rattle.std.specs.List.{AllByRecursion, position_or_len}
use Rattle.cti_terms.specs.Listing.{Listing}
use Rattle.cti_terms.specs.declared.predicates.Pred.{Pred}
use Rattle.prolog_reader.specs.declared.fault.ReadFault.{ReadFault}
use Rattle.prolog_reader.specs.declared.fault.ReadFault.TheVariants as reading
use Rattle.prolog_reader.specs.declared.fault.ReadKind.TheVariants.{Long}
use Rattle.prolog_reader.specs.Answers.{RefusesQuery}
use Rattle.prolog_terms.specs.Clauses.{Clause}
use Rattle.prolog_reader.specs.Names.{Extends}
use Rattle.prolog_reader.specs.Naming.{BeginNames, query_own}
use Rattle.prolog_reader.specs.Reading.{too_long_query}
use Rattle.prolog_reader.proofs.TextNames.{names_of}
use Rattle.clause_normal.specs.declared.fault.NormFault.{NormFault}
use Rattle.clause_normal.specs.declared.fault.NormFault.TheVariants as normal
use Rattle.clause_normal.specs.Numbering.{is_equality}
use Rattle.clause_normal.specs.Query.{AnswersQuery, query_form}
use Rattle.clause_normal.specs.Words.{same}
use Rattle.clause_normal.proofs.Later.{text_stays}
use Rattle.clause_normal.proofs.NumberingLemmas.{all_weaker, extends_more}
use Rattle.cti_top.specs.declared.source.SourceFault.{SourceFault}
use Rattle.cti_top.specs.declared.source.SourceFault.TheVariants as source
use Rattle.cti_top.specs.Queries.{Known, ReadsQueryAs}
use Rattle.cti_top.specs.Queries as queries
use Rattle.cti_top.specs.Faults.{IsQueryFault, read_fault, normal_fault}

-- a query that is too long
pub query_too_long : (known : Known) (query : List ℕ) → 1048576 < length query → IsQueryFault known query (source.Refused 8 0)
query_too_long known query long =
    let all = names_of query_own known.names query in
    (queries.not_read all.0 Long all.1 (too_long_query long refl) refl, omega arith)

-- a fault in reading refuses the query
pub query_not_read : (known : Known) (query : List ℕ) (names : List (List ℕ)) (fault : ReadFault) (r : SourceFault) → length query ≤ 1048576
    → BeginNames query_own known.names query names fault → r ≡ read_fault fault → RefusesQuery names known.table query fault → IsQueryFault known query r
query_not_read known query names (reading.Fault kind at) r short b e h = rw e (queries.not_read b.all kind b.are (h b.all b.begin) refl, omega (arith, short))
query_not_read known query names reading.Memory r short b e h = rw e tt

-- and so does one of the normal form
pub query_not_normal : (known : Known) (query : List ℕ) (names : List (List ℕ)) (clause : Clause) (p : Listing) (fault : NormFault) (r : SourceFault) → length query ≤ 1048576
    → r ≡ normal_fault fault → ReadsQueryAs known query names clause → AnswersQuery (query_form names known.program clause) p (Err fault) → IsQueryFault known query r
query_not_normal known query names clause p (normal.Fault kind at) r short e reads h = rw e (queries.not_normal names clause kind reads h refl, omega (arith, short))
query_not_normal known query names clause p normal.Memory r short e reads h = rw e tt

-- predicates' names stay known
pub known_later : (names later : List (List ℕ)) (preds : List Pred) → Extends names later → AllByRecursion (λ (q : Pred). q.name.0 < length names) preds
    → AllByRecursion (λ (q : Pred). q.name.0 < length later) preds
known_later names later preds ext h =
    let more = extends_more names later ext in
    all_weaker (λ (q : Pred). q.name.0 < length names) (λ (q : Pred). q.name.0 < length later) (λ q less. omega (arith, less, more)) preds h

-- and so does =/2
equality_stays : (names later : List (List ℕ)) (preds : List Pred) → Extends names later → AllByRecursion (λ (q : Pred). q.name.0 < length names) preds
    → position_or_len (is_equality later) preds ≡ position_or_len (is_equality names) preds
equality_stays names later [] ext h = refl
equality_stays names later (q ∷ preds) ext h =
    let first : is_equality later q ≡ is_equality names q = ap (λ t. same t (codes "=") && (q.arity == 2)) (text_stays names later ext q.name.0 h.0) in
    let rest = equality_stays names later preds ext h.1 in
    λ i. cond (not (first i)) (1 + rest i) 0

pub same_equality : (names later : List (List ℕ)) (preds : List Pred) → Extends names later → AllByRecursion (λ (q : Pred). q.name.0 < length names) preds
    → position (is_equality later) preds ≡ position (is_equality names) preds
same_equality names later preds ext h = ap (λ n. cond (nat_lt n (length preds)) (Some n) None) (equality_stays names later preds ext h)
