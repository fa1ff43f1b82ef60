use Rattle.std.proofs.Common.{◌≡◌, ◌++◌, take}
use Rattle.std.specs.List.{flat_map}
use Rattle.book_lines.specs.Services.{service_text}
use Rattle.book_lines.proofs.services.push_services.Given as goal

abbrev pub invariant-loop-service : goal.invariant-loop-service
invariant-loop-service l = l.out.items ≡ l.fn.out.items ++ flat_map service_text (take l.service-index l.services)
