use Rattle.statement_rows.proofs.Stand.{statement_kept, block_kept, declaration_kept, rest_kept}
use Rattle.statement_rows.proofs.laws.rows_kept.Goals as goal

pub returns : goal.returns
returns c = λ w s sense kept. record {
  statements = statement_kept w s sense kept;
  blocks = block_kept w s sense kept;
  declarations = declaration_kept w s sense kept;
  rests = rest_kept w s sense kept;
}
