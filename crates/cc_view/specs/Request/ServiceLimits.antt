-- The limits of a request's services.
use Rattle.std.specs.Prelude.{◌≢◌, ◌<◌, ◌≤◌, ◌^◌, List, length, All, AllPairs}
use Rattle.cc_view.specs.declared.request.Service.{Service}
use Rattle.cc_view.specs.declared.request.ServiceName.{ServiceName}

-- what names a service: Rating-Group, and the first Service-Identifier
abbrev pub name_of : Service → ServiceName
name_of service = record { group = service.group; ident = service.ident }

-- each sum of used units is below 2 ^ 78
abbrev pub HasSmallSums : Service → Type 0
HasSmallSums service = All (λ sum. sum < 2 ^ 78) service.used

-- at most 32 services, no two of one name, each with small sums
pub record WithinLimits (services : List Service) : Type 0 where
  pub few : length services ≤ 32
  pub own_names : AllPairs (λ service other. name_of service ≢ name_of other) services
  pub small : All HasSmallSums services
