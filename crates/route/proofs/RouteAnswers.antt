-- The answers worked out by hand are those of the definitions. Assumes nothing.
use mathlib.Core.List.{map}
use mathlib.Core.Path.{◌≡◌, refl}
use Rattle.route.specs.Address.{is_well_formed, depth, parent, up_from, common_ancestor, on_path, weight_at}
use Rattle.route.specs.Route.{route_of}
use Rattle.route.specs.RouteAnswers.{Question, questions}

pub route_answers : map (λ (q : Question). route_of q.first q.second) questions ≡ map (λ (q : Question). q.gives) questions
unfolding is_well_formed depth parent up_from common_ancestor on_path weight_at route_of
route_answers = refl
