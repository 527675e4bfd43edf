use Rattle.std.proofs.Common.{◌≡◌, ◌≤◌, ◌^◌, ◌+◌, ◌*◌, get_or, arith, mul_comm, ap, ◌∙◌}
use Rattle.std.specs.Char.{digit_value}
use Rattle.prolog_tokens.proofs.NumberLemmas.{too_large, next_digit}
use Rattle.prolog_tokens.proofs.numbers.number.Goals as goal

pub returns-in_err-checked_mul : goal.returns-in_err-checked_mul
returns-in_err-checked_mul c =
    let large : 2 ^ 127 ≤ c.args.base * c.loop-byte.number + digit_value (get_or c.args.digits.now c.loop-byte.byte-index 0) = grind (arith, c.in_err-checked_mul.ensures, c.from.ensures) in
    rw c.from_residual.ensures (too_large c.args.base c.args.digits.now c.loop-byte.byte-index c.loop-byte.number (omega arith) (omega arith) c.loop-byte.invariant.spelled large)

pub returns-in_err-number : goal.returns-in_err-number
returns-in_err-number c =
    let product : c.loop-byte.number * c.from.result ≡ c.args.base * c.loop-byte.number = ap (λ b. c.loop-byte.number * b) c.from.ensures ∙ mul_comm c.loop-byte.number c.args.base in
    let large : 2 ^ 127 ≤ c.args.base * c.loop-byte.number + digit_value (get_or c.args.digits.now c.loop-byte.byte-index 0) =
    omega (arith, product, c.in_err-number.ensures, c.in_ok-checked_mul.ensures, c.digit_value.ensures, c.from-in-loop-byte.ensures) in
    rw c.from_residual-in_err-number.ensures (too_large c.args.base c.args.digits.now c.loop-byte.byte-index c.loop-byte.number (omega arith) (omega arith) c.loop-byte.invariant.spelled large)

pub returns-then-number-ge-LIMIT : goal.returns-then-number-ge-LIMIT
returns-then-number-ge-LIMIT c =
    let product : c.loop-byte.number * c.from.result ≡ c.args.base * c.loop-byte.number = ap (λ b. c.loop-byte.number * b) c.from.ensures ∙ mul_comm c.loop-byte.number c.args.base in
    let large : 2 ^ 127 ≤ c.args.base * c.loop-byte.number + digit_value (get_or c.args.digits.now c.loop-byte.byte-index 0) =
    omega (arith, product, c.in_ok-number.ensures, c.in_ok-checked_mul.ensures, c.digit_value.ensures, c.from-in-loop-byte.ensures) in
    too_large c.args.base c.args.digits.now c.loop-byte.byte-index c.loop-byte.number (omega arith) (omega arith) c.loop-byte.invariant.spelled large

pub loop-byte-preserved : goal.loop-byte-preserved
loop-byte-preserved c =
    let product : c.loop-byte.number * c.from.result ≡ c.args.base * c.loop-byte.number = ap (λ b. c.loop-byte.number * b) c.from.ensures ∙ mul_comm c.loop-byte.number c.args.base in
    let is : c.in_ok-number.number ≡ c.args.base * c.loop-byte.number + digit_value (get_or c.args.digits.now c.loop-byte.byte-index 0) =
    omega (arith, product, c.in_ok-number.ensures, c.in_ok-checked_mul.ensures, c.digit_value.ensures, c.from-in-loop-byte.ensures) in
    record { spelled = rw is (next_digit c.args.base c.args.digits.now c.loop-byte.byte-index c.loop-byte.number (omega arith) c.loop-byte.invariant.spelled); small = omega arith }
