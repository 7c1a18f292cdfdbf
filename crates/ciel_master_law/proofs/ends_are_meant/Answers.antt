use Rattle.ciel_master_law.proofs.ShopLaws.{circle_never, modest_alike, shown_meant}
use Rattle.ciel_master_law.proofs.ends_are_meant.Goals as goal

pub returns : goal.returns
returns c =
    record {
      shown = λ digest job gives orderly h b going sound runs order out rows rest root r p shown is all. shown_meant digest job gives orderly h b
          going sound runs order out rows rest root r p shown is all;
      circle = λ digest job gives orderly p J names k. circle_never digest job gives orderly p J names k;
      modest = λ digest job gives orderly limit m. modest_alike digest job gives orderly limit m;
    }
