use Rattle.ciel_master_law.proofs.ShopLaws.{missed_fits, performs_promises, shop_is}
use Rattle.ciel_master_law.proofs.reports_are_promised.Goals as goal

pub returns : goal.returns
returns c =
    record {
      setting = λ digest job gives orderly. shop_is digest job gives orderly;
      performs = λ digest job gives orderly h b going sound runs order out rows r p none. performs_promises digest job gives orderly h b going sound
          runs order out rows r p none;
      missed = λ digest b order main name loss seen m count planned lost. missed_fits digest b order main name loss seen m count planned lost;
    }
