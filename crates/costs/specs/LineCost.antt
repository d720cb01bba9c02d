-- What a line costs. Assumes nothing.
use Rattle.std.specs.Prelude.{cond}
use Rattle.nets.specs.declared.line.Line.{Line}
use Rattle.costs.specs.Kind.{Costs}

-- An open line costs what its fee and loss cost, and a shut line none.
abbrev pub line_cost : {V : Type 0} → Costs V → Line → V
line_cost K l = cond l.«open» (K.of_price l.fee l.loss) K.none
