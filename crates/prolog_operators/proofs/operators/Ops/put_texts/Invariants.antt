use Rattle.std.proofs.Common.{◌≡◌, ◌≤◌, ◌+◌, ℕ, List, length, map, take}
use Rattle.prolog_operators.specs.Names.{Extends}
use Rattle.prolog_operators.specs.Texts.{with_names}
use Rattle.prolog_operators.specs.Meanings.{table_of}
use Rattle.prolog_operators.specs.Table.{with_texts}
use Rattle.prolog_operators.proofs.operators.Ops.put_texts.Given as goal

-- the names so far are set
abbrev pub invariant-texts : goal.invariant-texts
invariant-texts l = record {
  set : (later : List (List ℕ)) → Extends l.names later → table_of l.self ≡ with_texts later (table_of l.fn.self) l.priority l.kind (map (λ t. t.now) (take l.text-index l.texts));
  added : l.names ≡ with_names l.fn.names (map (λ t. t.now) (take l.text-index l.texts));
  kept : Extends l.fn.names l.names;
  few : length l.names ≤ length l.fn.names + l.text-index;
}
