-- Each source is what the closure gives.
use Rattle.std.proofs.Common.{rules}
use Rattle.file_new.specs.Steps.{source_of}
use Rattle.basics.proofs.Arrays.{from_fn_at}
use Rattle.file_new.proofs.sources.Goals as goal

pub returns : goal.returns
returns c = record {
  many = c.from_fn.ensures.items.long;
  each = from_fn_at _ (source_of c.args.i) _ (λ i y q k. search rules) _ _ c.from_fn.ensures.items;
}
