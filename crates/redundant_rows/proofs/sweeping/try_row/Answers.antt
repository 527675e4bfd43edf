use Rattle.std.proofs.Common.{◌≡◌, ℕ, suc, Bool, true, false, List, ℤ, [], ◌∷◌, ◌++◌, take, drop, ap, subst, sym, ◌∙◌, Some}
use Rattle.std.specs.Prelude.{slice_index_or, slice_get}
use Rattle.linear_rows.specs.Plain.{plain_row, plain_rows, HaveWidth}
use Rattle.linear_rows.specs.Irredundant.{without_place}
use Rattle.linear_rows.specs.declared.row.Row.{Row}
use Rattle.redundant_rows.specs.Sweeping.{Decides}
use Rattle.redundant_rows.proofs.Sweeps.{plain_without, plain_at, put_back}
use Rattle.redundant_rows.proofs.sweeping.try_row.Goals as goal

-- what is decided of the row that was taken out, and of the others, is decided of the row at its place
placed : (b c : Bool) (n w p : ℕ) (l others : List Row) (r : Row) → b ≡ c → w ≡ n → others ≡ take p l ++ drop (suc p) l → slice_get l p ≡ Some r
    → Decides w (plain_rows others) (plain_row r) b → Decides n (without_place p (plain_rows l)) (slice_index_or (plain_rows l) p []) c
placed b c n w p l others r be we e at h =
    let same : plain_rows others ≡ without_place p (plain_rows l) = ap plain_rows e ∙ plain_without p l in
    let is : slice_index_or (plain_rows l) p [] ≡ plain_row r = plain_at p l r at in
    let decided = subst (λ (k : ℕ). Decides k (plain_rows others) (plain_row r) c) we (subst (Decides w (plain_rows others) (plain_row r)) be h) in
    subst (λ (x : List ℤ). Decides n (without_place p (plain_rows l)) x c) (sym is) (subst (λ (rs : List (List ℤ)). Decides n rs (plain_row r) c) same decided)

pub returns-then-branch-clause-out : goal.returns-then-branch-clause-out
returns-then-branch-clause-out c = λ _.
    let l = c.args.rows.list in
    let parted = c.part-parted.result in
    let p = c.args.place in (
      ap plain_rows c.part-parted.ensures.others ∙ plain_without p l,
      placed c.in_ok-holds_apart.field-0 true c.args.rows.width parted.others.width p l parted.others.list parted.row c.if-branch.true c.part-parted.ensures.width c.part-parted.ensures.others c.part-parted.ensures.row c.in_ok-holds_apart.ensures,
    )

back : (p : ℕ) (l others new : List Row) (r : Row) → others ≡ take p l ++ drop (suc p) l → new ≡ take p others ++ r ∷ drop p others → slice_get l p ≡ Some r → new ≡ l
back p l others new r e f at = f ∙ ap (λ (xs : List Row). take p xs ++ r ∷ drop p xs) e ∙ put_back p l r at

pub returns-clause-widths : goal.returns-clause-widths
returns-clause-widths c =
    let parted = c.part-parted.result in
    subst (HaveWidth c.args.rows.width) (sym (back c.args.place c.args.rows.list parted.others.list c.in_ok-put.field-0.list parted.row c.part-parted.ensures.others c.in_ok-put.ensures.rows c.part-parted.ensures.row)) c.requires.width

pub returns-clause-kept : goal.returns-clause-kept
returns-clause-kept c = λ _.
    let l = c.args.rows.list in
    let parted = c.part-parted.result in
    let p = c.args.place in (
      back p l parted.others.list c.in_ok-put.field-0.list parted.row c.part-parted.ensures.others c.in_ok-put.ensures.rows c.part-parted.ensures.row,
      placed c.in_ok-holds_apart.field-0 false c.args.rows.width parted.others.width p l parted.others.list parted.row c.if-branch.false c.part-parted.ensures.width c.part-parted.ensures.others c.part-parted.ensures.row c.in_ok-holds_apart.ensures,
    )
