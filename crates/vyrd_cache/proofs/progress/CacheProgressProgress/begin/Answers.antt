use Rattle.std.proofs.Common.{ap, ◌∙◌, sym}
use Rattle.vyrd_cache.specs.declared.place.Place.TheVariants.{Lock}
use Rattle.vyrd_cache.specs.Procedures.{procedure_of}
use Rattle.vyrd_cache.specs.Rests.{rest_at}
use Rattle.vyrd_cache.proofs.Steps.{begun}
use Rattle.vyrd_cache.proofs.progress.CacheProgressProgress.begin.Goals as goal

pub returns : goal.returns
returns c =
    ap (λ action. rest_at c.args._header.now
    (record {
      action = action;
      chunk = c.args.op.args.a;
      low = c.from.result;
      high = c.from-2.result;
    }) Lock) c.new-action.ensures
    ∙ begun c.args._header.now c.args.variant c.in-Cache.method c.args.op.args c.from.result
    c.from-2.result c.from.ensures c.from-2.ensures
    ∙ ap (λ method. procedure_of c.args._header.now c.args.variant method c.args.op.args)
    (sym c.in-Cache.is)
