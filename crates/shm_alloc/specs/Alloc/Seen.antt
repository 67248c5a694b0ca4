-- what the trail of an allocation shows of the segments and pages in which it saw no free block
use Rattle.std.specs.{Prelude.{◌≡◌, ◌≢◌, ℕ, ◌+◌, ◌*◌, ◌/◌, ◌<◌, ◌⊎◌}, List.Contains}
use Rattle.shm_words.specs.Layout.{address}
use Rattle.shm_words.specs.declared.place.Place.TheVariants as place
use Rattle.shm_graph.specs.{declared.ask.{Ask.{Ask, TheVariants.{Load, Store, Exchange}}, Me.Me}, Asks.{Trail, pair}}
use Rattle.shm_alloc.specs.{declared.request.Request.Request, Alloc.Control.class_asked}

-- a trail has this word step, which found a word of which that holds
abbrev pub Finds : Trail → Ask → (ℕ → Type 0) → Type 0
Finds tr a Says = (n : ℕ) × Contains tr (pair a n) × Says n

-- segment s was seen to be another's: its owner was loaded, and was somebody else, or the exchange that was to claim it found an owner
abbrev pub IsSeenTaken : Me → Trail → ℕ → Type 0
IsSeenTaken me tr s =
    Finds tr (Load (address me.geometry (place.Segment s))) (λ n. (n ≢ 0) × (n ≢ me.who + 1))
    ⊎ Finds tr (Exchange (address me.geometry (place.Segment s)) 0 (me.who + 1)) (λ n. n ≢ 0)

-- it was seen to be an own one: its owner was loaded, and was the identity, or the exchange that claimed it found nobody
abbrev pub IsSeenOwn : Me → Trail → ℕ → Type 0
IsSeenOwn me tr s =
    Finds tr (Load (address me.geometry (place.Segment s))) (λ n. n ≡ me.who + 1)
    ⊎ Finds tr (Exchange (address me.geometry (place.Segment s)) 0 (me.who + 1)) (λ n. n ≡ 0)

-- its page p was seen to have another class than the one that is asked for
abbrev pub IsSeenOther : Me → Request → Trail → ℕ → ℕ → Type 0
IsSeenOther me q tr s p = Finds tr (Load (address me.geometry (place.Page s p))) (λ n. (n ≢ 0) × (n ≢ class_asked q))

-- the page was seen to have the class, or was given it
abbrev pub IsSeenClassed : Me → Request → Trail → ℕ → ℕ → Type 0
IsSeenClassed me q tr s p =
    Finds tr (Load (address me.geometry (place.Page s p))) (λ n. n ≡ class_asked q)
    ⊎ Finds tr (Store (address me.geometry (place.Page s p)) (class_asked q)) (λ n. Unit {0})

-- the header of each block of the class in the page was loaded, and wasn't 0
abbrev pub AreSeenUsed : Me → Request → Trail → ℕ → ℕ → Type 0
AreSeenUsed me q tr s p = (i : ℕ) → i < 128 / class_asked q → Finds tr (Load (address me.geometry (place.Body s p 0) + class_asked q * i)) (λ n. n ≢ 0)

-- the page was seen to have no free block of the class
abbrev pub IsSeenFull : Me → Request → Trail → ℕ → ℕ → Type 0
IsSeenFull me q tr s p = IsSeenOther me q tr s p ⊎ (IsSeenClassed me q tr s p × AreSeenUsed me q tr s p)

-- segment s was seen to have no free block for the identity: it is another's, or an own one none of whose 16 pages has one
abbrev pub HasNoneFree : Me → Request → Trail → ℕ → Type 0
HasNoneFree me q tr s = IsSeenTaken me tr s ⊎ (IsSeenOwn me tr s × ((p : ℕ) → p < 16 → IsSeenFull me q tr s p))
