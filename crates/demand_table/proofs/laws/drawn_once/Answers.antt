use Rattle.demand_table.proofs.Drawings.{entries, total_same, callers_one, same_live}
use Rattle.demand_table.proofs.laws.drawn_once.Goals as goal

pub returns : goal.returns
returns c = λ C R D E closed d e p. (
  same_live C R closed.no_cycle closed D E d e p,
  λ n m a b. record {
    run = entries C R closed.no_cycle closed D E d e p n m a b;
    total = total_same C R closed.no_cycle closed D E d e p n m a b;
    callers = callers_one C R closed.no_cycle closed D E d e p n m a b;
  },
)
