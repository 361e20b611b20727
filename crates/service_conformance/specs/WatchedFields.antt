-- What the fields of a service at which weak listings look tell.
use Rattle.service_conformance.specs.declared.conformance.watched.WatchedService.TheInside.{Inside}
use Rattle.service_conformance.specs.Looks.{IsWatched, Watched}

-- the service that they tell, with the weak listings
abbrev pub watched_of : Inside → Watched
watched_of c = record { service = c.service.value; looks = c.looks.items }

-- the weak listings have seen it
abbrev pub IsSoundWatched : Inside → Type 0
IsSoundWatched c = IsWatched (watched_of c)
