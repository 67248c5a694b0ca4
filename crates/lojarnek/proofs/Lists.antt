-- tokens and desks of one pool, one more or one fewer
use Rattle.std.proofs.Common.{◌≡◌, Bool, true, false, if◌then◌else◌, List, [], ◌∷◌, ◌++◌}
use Rattle.shm_pool.specs.Tokens.{AllOf, Its, Token}
use Rattle.lojarnek.specs.{declared.desk.Desk.Desk, Pools.AreDesks}

pub all_push : (p : Its) (ts : List Token) (t : Token) → AllOf p ts → t.of ≡ p → AllOf p (ts ++ t ∷ [])
all_push p [] t h e = (e, tt)
all_push p (x ∷ ts) t h e = (h.0, all_push p ts t h.1 e)

pub all_front : (p : Its) (ts : List Token) (t : Token) → AllOf p (ts ++ t ∷ []) → AllOf p ts
all_front p [] t h = tt
all_front p (x ∷ ts) t h = (h.0, all_front p ts t h.1)

pub all_last : (p : Its) (ts : List Token) (t : Token) → AllOf p (ts ++ t ∷ []) → t.of ≡ p
all_last p [] t h = h.0
all_last p (x ∷ ts) t h = all_last p ts t h.1

desks_push : (p : Its) (ds : List Desk) (d : Desk) → AreDesks p ds → d.slot.pool.value ≡ p → AreDesks p (ds ++ d ∷ [])
desks_push p [] d h e = (e, tt)
desks_push p (x ∷ ds) d h e = (h.0, desks_push p ds d h.1 e)

pub desks_pushed : (p : Its) (ds : List Desk) (d : Desk) (b : Bool) → AreDesks p ds → d.slot.pool.value ≡ p → AreDesks p (if b then ds ++ d ∷ [] else ds)
desks_pushed p ds d true h e = desks_push p ds d h e
desks_pushed p ds d false h e = h
