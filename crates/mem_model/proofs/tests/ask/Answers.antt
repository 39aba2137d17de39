use Rattle.std.proofs.Common.{◌≡◌, ◌∙◌}
use Rattle.mem_model.specs.Memory.{Memory}
use Rattle.mem_model.proofs.CacheLaws.{after_gives, users-cache_alloc}
use Rattle.mem_model.proofs.tests.ask.Goals as goal

pub returns : goal.returns
returns g c = after_gives (λ (m : Memory). m.users ≡ 8) _ _ _ _ _ c.cache_alloc.ensures.gives (users-cache_alloc _ _ _ _ ∙ c.requires.users) c.requires.users
