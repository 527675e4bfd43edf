-- What a memo has after a look-up and after a put, and how it stays right.
use Rattle.std.proofs.Common.{◌⊎◌, inl, inr, IfSome, OnOk, OnErr, Result, Ok, Err, ◌≡◌, ℕ, List, Contains, Option, Some, None, refl, sym}
use Rattle.std.specs.HashMap.{HashMap}
use Rattle.std.specs.Map.{lookup}
use Rattle.lru.specs.LruCache.{LruCache, lru_cache, promoted, put_entries}
use Rattle.lru.proofs.CallerLemmas.{Contains-lookup, Contains-promoted, Contains-put_entries, IsPut}
use Rattle.bool_diagrams.specs.declared.node.Node.{Node}
use Rattle.bool_diagrams.specs.declared.memo.Key.{Key}
use Rattle.bool_diagrams.specs.contracts.memo.KeyPartialEq.TheImpl.{eq-value}
use Rattle.bool_diagrams.specs.Joins.{IsRight}
use Rattle.bool_diagrams.specs.Nodes.{trees, IsTable}
use Rattle.bool_diagrams.proofs.Keys.{same_key}

-- what is found was kept under the key itself
pub found_entry : (es : List (Key × ℕ)) (key : Key) (r : Option ℕ) → r ≡ lookup (eq-value.it key) es → IfSome r (λ number. Contains es (key, number))
found_entry es key None e = tt
found_entry es key (Some i) e =
    let there = Contains-lookup (eq-value.it key) es i (sym e) in
    rw (same_key key there.0 there.2) there.1

-- a look-up adds no entry
pub entry_found : (memo memo' : LruCache Key ℕ) (key : Key) → memo' ≡ lru_cache (promoted (eq-value.it key) memo.entries) memo.cap → (entry : Key × ℕ) → Contains memo'.entries entry → Contains memo.entries entry
entry_found memo memo' key e entry there = Contains-promoted (eq-value.it key) memo.entries entry (rw e at there)

-- a put adds the one entry
put_entry : (memo : LruCache Key ℕ) (key : Key) (i : ℕ) (entry : Key × ℕ) → Contains memo.entries entry ⊎ IsPut eq-value.it memo key i entry
    → Contains memo.entries entry ⊎ (entry ≡ (key, i))
put_entry memo key i entry (inl there) = inl there
put_entry memo key i (k, j) (inr (is, inl same)) = inr (rw (is, same) refl)
put_entry memo key i (k, j) (inr (is, inr old)) = inr (rw (is, same_key key k old.2) refl)

pub entry_put : {X E : Type 0} (memo memo' : LruCache Key ℕ) (key : Key) (i : ℕ) (r : Result X E) → OnOk r (memo' ≡ lru_cache (put_entries eq-value.it memo key i) memo.cap) → OnErr r (memo' ≡ memo)
    → (entry : Key × ℕ) → Contains memo'.entries entry → Contains memo.entries entry ⊎ (entry ≡ (key, i))
entry_put memo memo' key i (Ok x) ok err entry there =
    let entries : memo'.entries ≡ put_entries eq-value.it memo key i = rw ok refl in
    put_entry memo key i entry (Contains-put_entries eq-value.it memo key i entry (rw entries at there))
entry_put memo memo' key i (Err e) ok err entry there = inl (rw err at there)

module _ {S : Type 0} (nodes : List Node) (unique : HashMap Node ℕ S) (memo memo' : List (Key × ℕ)) (key : Key) where
  pub right_found : (r : Option ℕ) → IsTable nodes unique memo → IfSome r (λ number. Contains memo (key, number)) → IfSome r (IsRight (trees nodes) key)
  right_found None t kept = tt
  right_found (Some i) t kept = t.right (key, i) kept

  pub table_within : IsTable nodes unique memo → ((entry : Key × ℕ) → Contains memo' entry → Contains memo entry) → IsTable nodes unique memo'
  table_within t within = record {
    sound = t.sound;
    found = t.found;
    right = λ entry there. t.right entry (within entry there);
  }

  right_put : (i : ℕ) (entry : Key × ℕ) → IsTable nodes unique memo → IsRight (trees nodes) key i → Contains memo entry ⊎ (entry ≡ (key, i)) → IsRight (trees nodes) entry.0 entry.1
  right_put i entry t right (inl there) = t.right entry there
  right_put i entry t right (inr same) = rw same right

  pub table_put : (i : ℕ) → IsTable nodes unique memo → IsRight (trees nodes) key i → ((entry : Key × ℕ) → Contains memo' entry → Contains memo entry ⊎ (entry ≡ (key, i))) → IsTable nodes unique memo'
  table_put i t right put = record {
    sound = t.sound;
    found = t.found;
    right = λ entry there. right_put i entry t right (put entry there);
  }
