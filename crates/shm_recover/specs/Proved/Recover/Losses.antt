-- events that lose references and free blocks: what is proved of it
use Rattle.std.proofs.Common.{◌≡◌, ℕ, zero, suc, refl, sym, subst, List, [], ◌∷◌, ◌++◌, inl, inr, ◌⊎◌}
use Rattle.std.proofs.lemmas.List.Elements.{All-append, All-cons, All-nil}
use Rattle.shm_graph.specs.{declared.memo.Memo.Memo, Events.Event}
use Rattle.shm_graph.specs.Events as event
use Rattle.shm_count.specs.{Roots.root_word, Tear.Events.{Walk, Freed, Kept, Fell, Walks, events_of}}
use Rattle.shm_ref.specs.Lefts.{RootEvents, RootsEvents}
use Rattle.shm_recover.specs.{Scan.ScanEvents, TakeBack.{BackEvents, BacksEvents}, Recover.Losses.{IsLoss, AreLosses}}

pub no_losses : (c : ℕ) → AreLosses c []
no_losses c = All-nil (IsLoss c)

pub more_losses : (c : ℕ) (es ds : List Event) → AreLosses c es → AreLosses c ds → AreLosses c (es ++ ds)
more_losses c es ds h i = All-append (IsLoss c) es ds h i

-- a walk has no others
walk_losses : (c b : ℕ) (x : Walk) → AreLosses c (events_of c b x)
walk_losses c b Freed = All-cons (IsLoss c) (event.Free c b) [] refl (no_losses c)
walk_losses c b (Kept i t rest) = All-cons (IsLoss c) _ (events_of c b rest) refl (walk_losses c b rest)
walk_losses c b (Fell i t inner rest) = All-cons (IsLoss c) _ (events_of c t inner ++ events_of c b rest) refl (more_losses c (events_of c t inner) (events_of c b rest) (walk_losses c t inner) (walk_losses c b rest))

pub walked_losses : (c b : ℕ) (es : List Event) → Walks c b es [] → AreLosses c es
walked_losses c b es (x, order, e) = subst (AreLosses c) (sym e) (walk_losses c b x)

none_or_walked : (c b : ℕ) (es : List Event) → (es ≡ []) ⊎ Walks c b es [] → AreLosses c es
none_or_walked c b es (inl e) = subst (AreLosses c) (sym e) (no_losses c)
none_or_walked c b es (inr w) = walked_losses c b es w

-- nor have roots that come to be empty
root_losses : (c k x : ℕ) (es : List Event) → RootEvents c k x es → AreLosses c es
root_losses c k zero es e = subst (AreLosses c) (sym e) (no_losses c)
root_losses c k (suc x) es (ds, e, h) = subst (AreLosses c) (sym e) (All-cons (IsLoss c) _ ds refl (none_or_walked c (suc x) ds h))

pub roots_losses : (c : ℕ) (m : Memo) (n : ℕ) (es : List Event) → RootsEvents c m n es → AreLosses c es
roots_losses c m zero es e = subst (AreLosses c) (sym e) (no_losses c)
roots_losses c m (suc n) es (before, after, e, h, g) = subst (AreLosses c) (sym e) (more_losses c before after (roots_losses c m n before h) (root_losses c n (root_word c m n) after g))

-- nor blocks that are taken back
queue_losses : (c i k x : ℕ) (es : List Event) → BackEvents c i k x es → AreLosses c es
queue_losses c i k zero es e = subst (AreLosses c) (sym e) (no_losses c)
queue_losses c i k (suc x) es (ds, e, h) = subst (AreLosses c) (sym e) (All-cons (IsLoss c) _ ds refl (none_or_walked c (suc x) ds h))

pub backs_losses : (c : ℕ) (m : Memo) (p : ℕ) (es : List Event) → BacksEvents c m p es → AreLosses c es
backs_losses c m zero es e = subst (AreLosses c) (sym e) (no_losses c)
backs_losses c m (suc p) es (before, after, e, h, g) = subst (AreLosses c) (sym e) (more_losses c before after (backs_losses c m p before h) (queue_losses c _ _ _ after g))

-- nor blocks that a scan found
pub scan_losses : (c : ℕ) (bs : List ℕ) (es : List Event) → ScanEvents c bs es → AreLosses c es
scan_losses c [] es e = subst (AreLosses c) (sym e) (no_losses c)
scan_losses c (b ∷ bs) es (before, after, e, h, g) = subst (AreLosses c) (sym e) (more_losses c before after (scan_losses c bs before h) (walked_losses c b after g))
