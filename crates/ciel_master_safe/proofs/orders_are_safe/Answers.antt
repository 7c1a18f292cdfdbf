use Rattle.ciel_master_safe.proofs.SoundOrders.{sent_good}
use Rattle.ciel_master_safe.proofs.orders_are_safe.Goals as goal

pub returns : goal.returns
returns c =
    record { orders = λ digest shelves sc inputs b s task w run idle order e. sent_good digest shelves sc inputs b s task w run idle order e }
