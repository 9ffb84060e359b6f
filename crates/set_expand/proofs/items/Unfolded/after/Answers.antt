use Rattle.set_expand.proofs.items.Unfolded.after.Goals as goal

pub returns-in-Struct : goal.returns-in-Struct
returns-in-Struct c = rw c.in-Struct.is c.after_struct.ensures

pub returns-in-Input : goal.returns-in-Input
returns-in-Input c = rw c.in-Input.is c.after_input.ensures

pub returns-in-Define : goal.returns-in-Define
returns-in-Define c = rw c.in-Define.is c.after_define.ensures

pub returns-in-Formula : goal.returns-in-Formula
returns-in-Formula c = rw c.in-Formula.is c.after_formula.ensures

pub returns-in-Contract : goal.returns-in-Contract
returns-in-Contract c = rw c.in-Contract.is c.after_contract.ensures
