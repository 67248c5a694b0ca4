-- what the events of a walk show
use Rattle.std.proofs.Common.{◌≡◌, ℕ, refl, sym, ap, ◌∙◌, subst, List, [], ◌∷◌, ◌++◌, append_assoc, inl, inr}
use Rattle.std.proofs.lemmas.List.{append-nil}
use Rattle.std.proofs.lemmas.List.Elements.{All-nil, All-cons, All-append, All-weaker, Contains-append_left, Contains-append_right, Contains-push}
use Rattle.std.specs.{Prelude.◌⊎◌, List.{All, Contains}}
use Rattle.shm_graph.specs.{declared.spot.Spot.TheVariants.Body, Events.Event}
use Rattle.shm_graph.specs.Events as event
use Rattle.kind_laws.proofs.Lists.{newest}
use Rattle.shm_count.specs.Tear.Events.{Walk, Freed, Kept, Fell, InOrder, events_of, Visit, Walks, IsTearing, frees_of}

-- the block itself is freed last
walk_last : (c b : ℕ) (x : Walk) → (before : List Event) × (events_of c b x ≡ before ++ event.Free c b ∷ [])
walk_last c b Freed = ([], refl)
walk_last c b (Kept i t rest) = let u = walk_last c b rest in (event.Down c (Body b i) t ∷ u.0, ap (λ (es : List Event). event.Down c (Body b i) t ∷ es) u.1)
walk_last c b (Fell i t inner rest) =
    let u = walk_last c b rest in
    (event.Down c (Body b i) t ∷ (events_of c t inner ++ u.0), ap (λ (es : List Event). event.Down c (Body b i) t ∷ es) (ap (λ (es : List Event). events_of c t inner ++ es) u.1 ∙ sym (append_assoc (events_of c t inner) u.0 (event.Free c b ∷ []))))

-- so it is among them
pub walk_frees : (c b : ℕ) (x : Walk) → Contains (events_of c b x) (event.Free c b)
walk_frees c b x = let u = walk_last c b x in subst (λ (es : List Event). Contains es (event.Free c b)) (sym u.1) (Contains-push u.0 (event.Free c b))

-- an event of one walk is one of another walk that has all of its events, where the block of the first one is that of the second one or lost a reference in it
tearing_in : (c b d : ℕ) (es fs : List Event) → ((y : Event) → Contains es y → Contains fs y) → (b ≡ d) ⊎ ((e : ℕ) × (i : ℕ) × Contains fs (event.Down c (Body e i) b)) → (e : Event) → IsTearing c b es e → IsTearing c d fs e
tearing_in c b d es fs more of (event.Down k (Body a i) t) h = (h.0, more (event.Free c a) h.1)
tearing_in c b d es fs more of (event.Free k a) h = (
  h.0,
  elim h.1 [
    | inl e ↦ elim of [ inl z ↦ inl (e ∙ z) | inr y ↦ inr (y.0, y.1, subst (λ (j : ℕ). Contains fs (event.Down c (Body y.0 y.1) j)) (sym e) y.2) ]
    | inr y ↦ inr (y.0, y.1, more (event.Down c (Body y.0 y.1) a) y.2)
  ],
)
tearing_in c b d es fs more of _ h = absurd h

-- each event of a walk is one of a tear-down
walk_tears : (c b : ℕ) (x : Walk) → All (IsTearing c b (events_of c b x)) (events_of c b x)
walk_tears c b Freed = All-cons (IsTearing c b (event.Free c b ∷ [])) (event.Free c b) [] (refl, inl refl) (All-nil (IsTearing c b (event.Free c b ∷ [])))
walk_tears c b (Kept i t rest) =
    let e : Event = event.Down c (Body b i) t in
    let es : List Event = events_of c b rest in
    let more : (y : Event) → Contains es y → Contains (e ∷ es) y = Contains-append_right (e ∷ []) es in
    All-cons (IsTearing c b (e ∷ es)) e es (refl, more (event.Free c b) (walk_frees c b rest))
    (All-weaker (IsTearing c b es) (IsTearing c b (e ∷ es)) (tearing_in c b b es (e ∷ es) more (inl refl)) es (walk_tears c b rest))
walk_tears c b (Fell i t inner rest) =
    let e : Event = event.Down c (Body b i) t in
    let xs : List Event = events_of c t inner in
    let es : List Event = events_of c b rest in
    let all : List Event = e ∷ (xs ++ es) in
    let in_first : (y : Event) → Contains xs y → Contains all y = λ y h. Contains-append_right (e ∷ []) (xs ++ es) y (Contains-append_left xs es y h) in
    let in_rest : (y : Event) → Contains es y → Contains all y = λ y h. Contains-append_right (e ∷ []) (xs ++ es) y (Contains-append_right xs es y h) in
    All-cons (IsTearing c b all) e (xs ++ es) (refl, in_rest (event.Free c b) (walk_frees c b rest))
    (All-append (IsTearing c b all) xs es
    (All-weaker (IsTearing c t xs) (IsTearing c b all) (tearing_in c t b xs all in_first (inr (b, i, newest e (xs ++ es)))) xs (walk_tears c t inner))
    (All-weaker (IsTearing c b es) (IsTearing c b all) (tearing_in c b b es all in_rest (inl refl)) es (walk_tears c b rest)))

-- the events of a walk that has still to go on with these blocks are those of a whole one once these blocks are freed
pub walk_stopped : (c first : ℕ) (es : List Event) (vs : List Visit) → Walks c first es vs → (x : Walk) × InOrder 0 x × (es ++ frees_of c vs ≡ events_of c first x)
walk_stopped c first es [] h = (h.0, h.1, append-nil es ∙ h.2)
walk_stopped c first es (v ∷ vs) h =
    let u = walk_stopped c first (es ++ event.Free c v.block ∷ []) vs (h Freed tt) in
    (u.0, u.1, sym (append_assoc es (event.Free c v.block ∷ []) (frees_of c vs)) ∙ u.2)

-- so of the events of a tear-down that is done
pub done_last : (c first : ℕ) (es : List Event) → Walks c first es [] → (before : List Event) × (es ≡ before ++ event.Free c first ∷ [])
done_last c first es h = let u = walk_last c first h.0 in (u.0, h.2 ∙ u.1)

pub done_tears : (c first : ℕ) (es : List Event) → Walks c first es [] → All (IsTearing c first es) es
done_tears c first es h = subst (λ (xs : List Event). All (IsTearing c first xs) xs) (sym h.2) (walk_tears c first h.0)
