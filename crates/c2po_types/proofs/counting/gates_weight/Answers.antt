use Rattle.std.proofs.Common.{◌≤◌, arith}
use Rattle.std.proofs.Math.Nat.{mul-le-mul_left}
use Rattle.c2po_types.proofs.counting.gates_weight.Goals as goal

pub overflow_mul-weight-2 : goal.overflow_mul-weight-2
overflow_mul-weight-2 c =
    let few : c.min.result ≤ 4294967295 = omega arith in
    omega (arith, mul-le-mul_left c.args.n few)

pub overflow_add-weight-2 : goal.overflow_add-weight-2
overflow_add-weight-2 c =
    let few : c.min.result ≤ 4294967295 = omega arith in
    omega (arith, mul-le-mul_left c.args.n few)
