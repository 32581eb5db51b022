-- Laws on the cache.
use Rattle.std.specs.Prelude.{◌≡◌, ℕ, List}
use Rattle.da_tables.specs.Hits.{AreHits, database_count, hits_from}
use Rattle.da_request.specs.declared.request.Request.{Request}
use Rattle.da_settings.specs.declared.settings.Settings.{Settings}
use Rattle.da_tables.specs.declared.tables.Tables.{Tables}

-- there is at most one list of hits
abbrev pub HitsAreUnique : Type 0
HitsAreUnique =
    (settings : Settings) (moment : ℕ) (tables : Tables) (r : Request) (ms ns : List ℕ) →
    AreHits settings moment tables r ms → AreHits settings moment tables r ns → ms ≡ ns

-- the hits that the server makes are the hits
abbrev pub HitsAreHits : Type 0
HitsAreHits =
    (settings : Settings) (moment : ℕ) (tables : Tables) (r : Request) →
    AreHits settings moment tables r (hits_from (database_count settings) settings moment tables r)
